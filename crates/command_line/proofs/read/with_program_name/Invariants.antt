use Rattle.std.proofs.Common.{◌≡◌, ◌∷◌, map, take}
use Rattle.std.specs.Prelude.{codes, string_bytes}
use Rattle.command_line.proofs.read.with_program_name.Given as goal

abbrev pub invariant-loop-word : goal.invariant-loop-word
invariant-loop-word l = map (λ s. s.now) l.all.items ≡ codes "pcm" ∷ map string_bytes (take l.word-index l.words)
