use Rattle.std.proofs.Common.{◌≡◌, take}
use Rattle.std.specs.Prelude.{map}
use Rattle.masked_bytes.specs.{Entries.layer_of, Masked.laid}
use Rattle.pcm_image.specs.Standing.{entry_of}
use Rattle.pcm_image.proofs.standing.lay_entries.Given as goal

-- what the entries so far give over the first bytes
abbrev pub invariant-loop-entry : goal.invariant-loop-entry
invariant-loop-entry g l =
    l.bytes ≡ laid (layer_of (map entry_of (take l.entry-index l.entries)) l.line).bytes (layer_of (map entry_of (take l.entry-index l.entries)) l.line).given l.fn.bytes
