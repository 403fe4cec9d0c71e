-- The bytes of a run's summary.
use Rattle.std.specs.Prelude.{ℕ, List, [], ◌∷◌, ◌++◌, codes, decimal}
use Rattle.run_text.specs.declared.counts.OutcomeCounts.{OutcomeCounts}

-- a line of a summary: a word, a space, a number in decimal, and LF
abbrev pub line_text : List ℕ → ℕ → List ℕ
line_text word number = word ++ codes " " ++ decimal number ++ codes "\n"

-- lines of a summary, one behind the other
abbrev pub lines_text : List (List ℕ × ℕ) → List ℕ
lines_text [] = []
lines_text ((word, number) ∷ rest) = line_text word number ++ lines_text rest

-- the words of the summary in their order, with their numbers
abbrev pub summary_lines : ℕ → OutcomeCounts → ℕ → ℕ → List (List ℕ × ℕ)
summary_lines rows counts retired pulses =
    (codes "rows", rows)
    ∷ (codes "stored", counts.stored) ∷ (codes "merged", counts.merged) ∷ (codes "queued", counts.queued)
    ∷ (codes "full", counts.full) ∷ (codes "worn", counts.worn)
    ∷ (codes "read", counts.read) ∷ (codes "forwarded", counts.forwarded) ∷ (codes "busy", counts.busy) ∷ (codes "lost", counts.lost)
    ∷ (codes "cut", counts.cut)
    ∷ (codes "retired", retired) ∷ (codes "pulses", pulses) ∷ []

-- the summary of a run: its rows, how many of them had each outcome, the spares in use, and the pulses of all array lines
abbrev pub summary_text : ℕ → OutcomeCounts → ℕ → ℕ → List ℕ
summary_text rows counts retired pulses = lines_text (summary_lines rows counts retired pulses)
