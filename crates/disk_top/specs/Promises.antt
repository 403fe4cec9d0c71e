-- What every call of the program promises.
use Rattle.std.specs.Prelude.{◌≡◌, ℕ, Result, Ok, Err}
use Rattle.pcm_cells.specs.Seeded.{seeded_state}
use Rattle.command_line.specs.{declared.job.LineSize.LineSize, declared.job.LineSize.TheVariants.{Bytes64, Bytes128}, declared.job.Refusal.Refusal}
use Rattle.command_line.specs.declared.job.Refusal.TheVariants as refusal
use Rattle.program_calls.specs.Calls.{Lent, SinkChange}
use Rattle.disk_server.specs.declared.phase.Ended.{Ended}
use Rattle.disk_words.specs.Jobs.{DiskAsked}
use Rattle.disk_top.specs.{Outcomes.{IsStatusOf, fault_in}, Serving.{HasServed, Shown}, declared.outcome.DiskOutcome.DiskOutcome}
use Rattle.disk_top.specs.{declared.outcome.DiskOutcome.TheVariants.{Served, Usage, NoMemory}, declared.program.Remains.Remains, declared.program.Remains.TheVariants.{Narrow, Wide}}

-- a call: what was asked for, what is seen of the client before and behind it, and what is left
pub record Call : Type 0 where
  pub asked : Result DiskAsked Refusal
  pub was : Shown
  pub now : Shown
  pub remains : Remains

module _ (call : Call) where
  -- a client was served on lines of the size that was asked for
  abbrev pub ServesOn : DiskAsked → Ended → LineSize → Remains → Type 0
  ServesOn job ended Bytes64 (Narrow last) = HasServed seeded_state job call.was call.now last ended
  ServesOn job ended Bytes128 (Wide last) = HasServed seeded_state job call.was call.now last ended
  ServesOn job ended _ _ = ⊥

  abbrev pub Serves : Result DiskAsked Refusal → Ended → Type 0
  Serves (Err e) ended = ⊥
  Serves (Ok job) ended = ServesOn job ended job.plan.line call.remains

  -- what became of it; where no client was served, nothing was read and nothing written
  abbrev pub Becomes : DiskOutcome → Type 0
  Becomes (Served ended) = Serves call.asked ended
  Becomes Usage = (call.asked ≡ Err refusal.Usage) × (call.now ≡ call.was)
  Becomes NoMemory = call.now ≡ call.was

  -- what holds of every call: it becomes something, and the status and what is said on standard error are those of it
  pub record KeepsPromises {F : Type 0} (err : Lent F SinkChange) (status : ℕ) : Type 0 where
    pub outcome : DiskOutcome
    pub becomes : Becomes outcome
    pub told : IsStatusOf (fault_in outcome) err status
