-- Worked entries of a small bank, computed. The newest event is first.
use Rattle.std.proofs.Common.{◌≡◌, true, false, List, [], ◌∷◌, Some, None, refl}
use Rattle.bank_model.specs.{Events.{BankEvent, Write, Cut}, Timing.core}
use Rattle.bank_shape.specs.declared.answer.WriteAnswer.TheVariants.{Accepted, Merged, Full}
use Rattle.worked_tables.specs.HistoryExamples.{small, whole, both, first, begun}
use Rattle.queue_laws.specs.EntryLaws.{line_written, given_by, last_write, is_head_begun}

-- a write of line 3 is in flight as another comes, which is an entry of its own; a cut; and one more write, which is merged into that
abbrev behind_the_head : List (BankEvent 2)
behind_the_head = Write 3 3 (0x33 ∷ 0 ∷ []) first (Merged 2) ∷ Cut true ∷ Write 2 3 (whole 0x22) both Accepted ∷ core (begun 0x11)

-- two writes of one line, of which the second gives the first byte alone, and a refused one
abbrev merged_once : List (BankEvent 2)
merged_once = Write 7 3 (whole 0x77) both Full ∷ Write 6 3 (0x66 ∷ 0 ∷ []) first (Merged 5) ∷ Write 5 3 (whole 0x55) both Accepted ∷ []

-- each entry has its own writes alone: the head the first one, the entry behind it the other two
head_given : given_by 1 behind_the_head ≡ record { bytes = whole 0x11; given = both }
head_given = refl

behind_given : given_by 3 behind_the_head ≡ record { bytes = 0x33 ∷ 0x22 ∷ []; given = both }
behind_given = refl

head_begun : is_head_begun small behind_the_head ≡ true
head_begun = refl

last_behind : last_write behind_the_head 3 ≡ Some 3
last_behind = refl

-- a refused write is no write of an entry
merged_given : given_by 6 merged_once ≡ record { bytes = 0x66 ∷ 0x55 ∷ []; given = both }
merged_given = refl

refused_given : line_written 7 merged_once ≡ None
refused_given = refl

last_merged : last_write merged_once 3 ≡ Some 6
last_merged = refl

none_begun : is_head_begun small merged_once ≡ false
none_begun = refl
