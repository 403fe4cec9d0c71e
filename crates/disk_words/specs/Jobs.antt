-- What the words of a disk ask for.
use Rattle.std.specs.Prelude.{◌≡◌, ℕ, ◌≤◌, List, codes, Option, Some, Result}
use Rattle.clap.specs.Words.{App, Row, Text, first_of, matches_of}
use Rattle.cell_rows.specs.Device.{IsWear}
use Rattle.atomic_sectors.specs.Sectors.{Fits}
use Rattle.module_shape.specs.Limits.{IsShape, total_of}
use Rattle.command_line.specs.{Jobs.{answer_of, faults_at}, Options.{with_some, line_of, large_shape_of, seed_of, wear_of}, declared.job.Refusal.Refusal}
use Rattle.disk_words.specs.{Cuts.cuts_of, Layouts.line_bytes, Options.{on_cut_of, sectors_of}, Table.disk_app, declared.job.DiskJob.DiskJob, declared.job.DiskPlan.DiskPlan}

-- a disk, and the ticks at which the power is cut
pub record DiskAsked : Type 0 where
  pub plan : DiskPlan
  pub cuts : List ℕ

abbrev pub asked_by : DiskJob → DiskAsked
asked_by job = record { plan = job.plan; cuts = job.cuts.items }

-- the disk of these options
unfoldable pub plan_of : List Row → Option DiskPlan
plan_of rows =
    with_some (line_of (first_of (codes "line") rows)) (λ line.
    with_some (large_shape_of rows) (λ shape.
    with_some (seed_of rows) (λ seed.
    with_some (wear_of seed rows) (λ wear.
    with_some (sectors_of line (total_of shape) rows) (λ layout.
    with_some (on_cut_of (first_of (codes "on-cut") rows)) (λ on_cut.
    Some (record { line = line; shape = shape; seed = seed; wear = wear; layout = layout; on_cut = on_cut })))))))

-- and the cuts with it
abbrev pub disk_of : List Row → Option DiskAsked
disk_of rows = with_some (plan_of rows) (λ plan. with_some (cuts_of rows) (λ cuts. Some (record { plan = plan; cuts = cuts })))

-- the options that `clap` finds in words
unfoldable pub options_at : App → List Text → List Row
options_at app words = matches_of app words

-- the job of such words, where `clap` doesn't refuse them
unfoldable pub job_at : App → List Text → Result DiskAsked Refusal
job_at app words = answer_of (faults_at app words) (disk_of (options_at app words))

-- the job of the words behind the program's name
unfoldable pub disk_job_of : List Text → Result DiskAsked Refusal
disk_job_of words = job_at disk_app words

-- the numbers of a disk are in range, and its module has room for its sectors, of which there is one at least, and for no more of them
pub record IsDiskPlan (plan : DiskPlan) : Type 0 where
  pub shape : IsShape plan.shape
  pub wear : IsWear plan.wear
  pub one_seed : plan.wear.seed ≡ plan.seed
  pub fits : Fits (line_bytes plan.line) plan.layout (total_of plan.shape)
  pub some : 1 ≤ plan.layout.sectors
  pub most : (sectors : ℕ) → Fits (line_bytes plan.line) (record plan.layout { sectors = sectors }) (total_of plan.shape) → sectors ≤ plan.layout.sectors
