-- Worked tables of banks with a gap move after each store, the newest row first; and how many stores a life is promised.
use Rattle.std.specs.Prelude.{ℕ, zero, suc, ◌+◌, ◌*◌, ◌/◌, ◌%◌, ◌==◌, ◌&&◌, not, nat_lt, Bool, if◌then◌else◌, List, [], ◌∷◌, count_by}
use Rattle.cell_rows.specs.Device.{CellBounds}
use Rattle.result_rows.specs.declared.Outcome.TheVariants as out
use Rattle.row_rules.specs.{Rows.asks_write_of, Ticking.tries, declared.Row.Row}
use Rattle.worked_tables.specs.TableExamples.{W}
use Rattle.bank_shape.specs.{Shape.slot_moved, declared.BankShape.BankShape, declared.pace.Policy.Policy}
use Rattle.bank_shape.specs.declared.Home.TheVariants as home
use Rattle.lifetime_laws.specs.Lifetime.{most_works_by}

abbrev pub two_lines : BankShape
two_lines = record { base = 0; regions = 1; lines = 2; spares = 0; writes = 4; reads = 4; psi = 1; home = home.Guarded }

-- the same with registers in the array
abbrev pub two_in_array : BankShape
two_in_array = record { base = 0; regions = 1; lines = 2; spares = 0; writes = 4; reads = 4; psi = 1; home = home.Array }

-- so many stores of a bank of one region of two lines, one every 100 ticks, the k-th of the line that a rule gives; each lies where its line stands
abbrev pub storing : (ℕ → ℕ) → ℕ → List (Row 2)
storing rule zero = []
storing rule (suc k) = W (100 * k) (rule k) 0xff (out.Stored (100 * k + 15) (slot_moved two_lines (rule k) k)) ∷ storing rule k

-- line 0 alone
abbrev pub always : ℕ → ℕ
always k = 0

-- line 0 while it is at slot 0, and else line 1
abbrev pub waiting_for_slot_0 : ℕ → ℕ
waiting_for_slot_0 k = if slot_moved two_lines 0 k == 0 then 0 else 1

-- how many stores are of a line
abbrev pub stores_of : ℕ → List (Row 2) → ℕ
stores_of line rows = count_by (λ q. asks_write_of line q.asks) rows

-- sixteen regions of four lines; and the first line of each
abbrev pub sixteen_regions : BankShape
sixteen_regions = record { base = 0; regions = 16; lines = 4; spares = 0; writes = 4; reads = 4; psi = 1; home = home.Guarded }

abbrev pub first_line : ℕ → ℕ
first_line region = 4 * region

-- so many stores, one of the first line of each region in turn; each lies where its line stands
abbrev pub one_hot_line_each : ℕ → List (Row 2)
one_hot_line_each zero = []
one_hot_line_each (suc k) =
    let line = first_line (k % 16) in
    W (100 * k) line 0xff (out.Stored (100 * k + 15) (slot_moved sixteen_regions line (k / 16))) ∷ one_hot_line_each k

-- the first line of each region as its hot one; and those of all regions as the hot ones of each
abbrev pub its_first : ℕ → List ℕ
its_first region = first_line region ∷ []

abbrev pub all_first : ℕ → List ℕ
all_first zero = []
all_first (suc k) = first_line k ∷ all_first k

-- cells that endure so many changes
abbrev pub enduring : ℕ → CellBounds
enduring changes = record { misses = 0; endures = changes }

-- so many stores of a region's hot lines, and not one more, are promised over cells of so many changes, beside the stores of its other
-- lines and the power cuts
abbrev pub most_promised : Policy → (lines psi hot changes others cuts stores : ℕ) → Bool
most_promised policy lines psi hot changes others cuts stores =
    nat_lt (tries policy * most_works_by lines psi hot (stores + others) others cuts) changes
    && not (nat_lt (tries policy * most_works_by lines psi hot (stores + 1 + others) others cuts) changes)

-- so with registers in the array, where the region's control line takes no more line writes than cells endure changes either
abbrev pub bears_in_array : Policy → (lines psi hot changes others cuts stores : ℕ) → Bool
bears_in_array policy lines psi hot changes others cuts stores =
    nat_lt (tries policy * most_works_by lines psi hot (stores + others) others cuts) changes
    && nat_lt (tries policy * (stores + others + (stores + others) / psi + cuts)) changes

abbrev pub most_promised_in_array : Policy → (lines psi hot changes others cuts stores : ℕ) → Bool
most_promised_in_array policy lines psi hot changes others cuts stores =
    bears_in_array policy lines psi hot changes others cuts stores && not (bears_in_array policy lines psi hot changes others cuts (stores + 1))
