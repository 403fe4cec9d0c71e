-- A client that was served by a disk on a new module.
use Rattle.std.proofs.Common.{◌≡◌, ℕ, List, [], ap, subst, ◌∙◌}
use Rattle.cell_rows.specs.Device.{ArrayState}
use Rattle.module_shape.specs.{Limits.total_of, declared.raw.RawShape.RawShape}
use Rattle.atomic_sectors.specs.{Sectors.Fits, declared.layout.Layout.Layout}
use Rattle.disk_bytes.specs.{Parts.IsReady, declared.disk.Disk.Disk}
use Rattle.disk_lines.specs.{Asking.HasHeard, Cutting.CutsCome, Lines.{Kind, OnModule, kind_on, writes_of}}
use Rattle.disk_promise.specs.Keeping.{IsDiskKept}
use Rattle.disk_server.specs.{Messages.asked, Sessions.IsSession, declared.phase.Ended.Ended}
use Rattle.disk_words.specs.{Jobs.{DiskAsked, IsDiskPlan}, Layouts.line_bytes, declared.job.DiskPlan.DiskPlan}
use Rattle.disk_top.specs.Serving.{HasServed, IsNewOn, Shown, seen_with}

-- the layout of the plan has room on the lines of the module
pub fits-on : (n : ℕ) (plan : DiskPlan) (layout : Layout) (shape : RawShape) → line_bytes plan.line ≡ n → layout ≡ plan.layout → shape ≡ plan.shape → IsDiskPlan plan
    → Fits n layout (total_of shape)
fits-on n plan layout shape bytes lays shaped is =
    rw (lays, shaped) (subst (λ (b : ℕ). Fits b plan.layout (total_of plan.shape)) bytes is.fits)

module _ {n m e : ℕ} {S : Type 0} where
  -- no write was made yet
  pub ready-on : (disk : Disk n) (first : OnModule n m e S) → first.puts ≡ [] → IsReady n [] disk → IsReady n (writes_of first.puts) disk
  ready-on disk first none ready = rw none ready

  pub served-on : (state : S → ArrayState n m) (job : DiskAsked) (was now : Shown) (first last : OnModule n m e S) (layout : Layout) (ended : Ended)
      → layout ≡ job.plan.layout → IsNewOn state job first
      → (session : IsSession n layout job.plan.on_cut (seen_with was first) (seen_with now last) ended)
      → (first.puts ≡ [] → IsDiskKept last.module_ (state last.array) last.heard layout (asked session.messages []))
      → HasHeard last.module_ (state last.array) last.heard → kind_on state last ≡ kind_on state first → CutsCome last.cuts last.heard last.module_.tick
      → HasServed state job was now last ended
  served-on state job was now first last layout ended lays new session kept has same come =
      let plan = job.plan in
      let both : (s : IsSession n plan.layout plan.on_cut (seen_with was first) (seen_with now last) ended)
      × IsDiskKept last.module_ (state last.array) last.heard plan.layout (asked s.messages []) =
      subst (λ (l : Layout). (s : IsSession n l plan.on_cut (seen_with was first) (seen_with now last) ended)
      × IsDiskKept last.module_ (state last.array) last.heard l (asked s.messages [])) lays (session, kept new.puts) in
      record {
        first = first;
        new = new;
        session = both.0;
        has = has;
        kept = both.1;
        shape = ap (λ (k : Kind). k.shape) same ∙ new.shape;
        seed = ap (λ (k : Kind). k.seed) same ∙ new.seed;
        wear = ap (λ (k : Kind). k.wear) same ∙ new.fresh.wear;
        cuts = subst (λ (ticks : List ℕ). CutsCome ticks last.heard last.module_.tick) (ap (λ (k : Kind). k.cuts) same ∙ new.cuts) come;
      }
