-- The entries of a bank's queue, as an image says them.
use Rattle.std.specs.Prelude.{ℕ}
use Rattle.pcm_image.specs.declared.EntryImage.{EntryImage}
use Rattle.right_runs.specs.Queued.{QueueEntry}

-- what one place of a queue gives, as it is saved
abbrev pub entry_image : {n : ℕ} → QueueEntry → EntryImage n
entry_image entry = record { line = entry.line; bytes = entry.gives.bytes; given = entry.gives.given }
