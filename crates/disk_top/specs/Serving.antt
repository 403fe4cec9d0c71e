-- What was served to a client.
use Rattle.std.specs.Prelude.{◌≡◌, ℕ, ◌*◌, List, [], Option, Some}
use Rattle.cell_rows.specs.Device.{ArrayState, IsFresh}
use Rattle.module_shape.specs.Addresses.{array_lines_of, module_of}
use Rattle.disk_lines.specs.{Asking.HasHeard, Cutting.{CutsCome, come_from}, Lines.OnModule}
use Rattle.disk_promise.specs.{Clients.{made_on, stops_on}, Keeping.IsDiskKept}
use Rattle.disk_server.specs.{Messages.asked, Sessions.{IsSession, Seen}, declared.phase.Ended.Ended}
use Rattle.disk_words.specs.Jobs.{DiskAsked}

-- what is seen of a client's source and sink
pub record Shown : Type 0 where
  pub left : Option (List ℕ)
  pub taken : ℕ
  pub unread : ℕ
  pub written : Option (List ℕ)
  pub unwritten : ℕ

abbrev pub shown : {S K : Type 0} → (S → Option (List ℕ)) → (S → ℕ) → (S → ℕ) → (K → Option (List ℕ)) → (K → ℕ) → S → K → Shown
shown left taken unread written unwritten source sink =
    record { left = left source; taken = taken source; unread = unread source; written = written sink; unwritten = unwritten sink }

module _ {n m e : ℕ} {S : Type 0} where
  -- and of the lines of a disk beside them
  abbrev pub seen_with : Shown → OnModule n m e S → Seen
  seen_with at lines = record {
    left = at.left;
    taken = at.taken;
    unread = at.unread;
    written = at.written;
    unwritten = at.unwritten;
    made = made_on lines;
    stops = stops_on lines;
  }

  -- nothing was asked yet of these lines: they are those of a new module of the plan's sizes and seed, over an array that was just powered up with its wear, whose power is
  -- to be cut at these ticks
  pub record IsNewOn (state : S → ArrayState n m) (job : DiskAsked) (first : OnModule n m e S) : Type 0 where
    pub shape : first.module_.shape ≡ job.plan.shape
    pub seed : first.module_.seed ≡ job.plan.seed
    pub fresh : IsFresh (job.plan.shape.banks * array_lines_of (module_of job.plan.shape)) job.plan.wear (state first.array)
    pub cuts : first.cuts ≡ come_from 0 job.cuts
    pub heard : first.heard ≡ []
    pub puts : first.puts ≡ []

  -- a client was served by a disk that lay on such lines: what it was answered, byte for byte, is what a disk of bytes answers to its messages; and each byte
  -- that was acknowledged is kept in the module that is left, in its array or in a protected queue. This module has still the sizes and the seed of the plan, and its array
  -- the wear; and by its rows the power was cut as it was to be
  pub record HasServed (state : S → ArrayState n m) (job : DiskAsked) (was now : Shown) (last : OnModule n m e S) (ended : Ended) : Type 0 where
    pub first : OnModule n m e S
    pub new : IsNewOn state job first
    pub session : IsSession n job.plan.layout job.plan.on_cut (seen_with was first) (seen_with now last) ended
    pub has : HasHeard last.module_ (state last.array) last.heard
    pub kept : IsDiskKept last.module_ (state last.array) last.heard job.plan.layout (asked session.messages [])
    pub shape : last.module_.shape ≡ job.plan.shape
    pub seed : last.module_.seed ≡ job.plan.seed
    pub wear : (state last.array).wear ≡ Some job.plan.wear
    pub cuts : CutsCome (come_from 0 job.cuts) last.heard last.module_.tick
