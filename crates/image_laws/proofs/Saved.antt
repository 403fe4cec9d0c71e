-- What a finished run leaves is saved as that of the run.
use Rattle.std.proofs.Common.{◌≡◌, true, ℕ, ◌*◌, ◌^◌, ◌<◌, List, [], get_or, refl, sym, ap, subst, ◌∙◌, arith}
use Rattle.std.{specs.Prelude.{Bool, map}, proofs.Math.Nat.mod-lt, proofs.Math.Path.fun_ext, proofs.lemmas.List.Elements.{All-map, All-from_get_or}}
use Rattle.std.proofs.{lemmas.List.FromFn.{get_or-map-range_with_len, length-map-range_with_len}, lemmas.Nat.mul-le}
use Rattle.cell_rows.specs.{Device.{ArrayState, LineState}, Rows.zero_row}
use Rattle.ecp_line.specs.{ArrayLines.is_worn_at, Reading.is_worn_line}
use Rattle.row_rules.specs.{Lines.IsOfLines, Rows.newest, declared.Row.Row}
use Rattle.bank_shape.specs.{declared.BankShape.BankShape, declared.pace.Pace.Pace}
use Rattle.power_recovery.specs.Kept.{KeptState}
use Rattle.bank_model.specs.Timing.{TimedEvent, core}
use Rattle.bank_laws.{specs.Laws.{IsSized, LeavesArray}, specs.Outcomes.table_of, specs.Resting.EndsIn, proofs.Serves.newest_same, proofs.Settling.opens}
use Rattle.right_runs.specs.{Banks.{bank_of_line, line_in_bank}, Ends.{is_moved_to, BankEnd}, Runs.RunsRightTo, Tables.table_in}
use Rattle.bank_invariant.specs.{Bridge.{AgreeLaw, AgreesWith}, Holds.stands_for as kept_for}
use Rattle.module_shape.specs.{Addresses.{module_of, bank_shape}, Limits.{IsShape, IsSmall, large_limits, small_limits, total_of}, declared.raw.RawShape.RawShape}
use Rattle.module_shape.specs.declared.raw.SizeLimits.{SizeLimits}
use Rattle.module_laws.{specs.Asking.row_with, specs.Serves.BankTableLaw, proofs.Serving.newest_in_bank}
use Rattle.clock_laws.specs.{Ending.LeavingLaw, Leads.Leads, State.ClockState}
use Rattle.end_laws.specs.EndLaws.{IsEndOf}
use Rattle.run_laws.{specs.FinishedLaws.LinesLaw, proofs.Finished.sized}
use Rattle.pcm_image.specs.{Saved.{Saved, SavedBank, IsHeadIn, IsSaved, IsSavedIn, IsSavedBank, IsSavedRow}, Standing.{no_bank, own_bytes, stands_for}}
use Rattle.right_images.specs.{SavedBanks.{SavesEnd, SavesMarkTo, SavesQueue}, SavesRun.{AreRows, SavesRunTo}, Saving.{head_of, saved_bank, saved_banks, saved_cells, saved_of}}
use Rattle.image_laws.{specs.SavedRuns.{IsLeftTo, SavedToLaw}, proofs.Ended.saves-end, proofs.Keeping.{bank-right, head-large, head-right}}
use Rattle.image_laws.proofs.{Marking.{saves-mark, saves-queue}, Standing.{lines-same, own-saved}}

-- what the image of a run follows from
pub record ImageLaws : Type 0 where
  pub by_bank : BankTableLaw
  pub lines : LinesLaw
  pub agree : AgreeLaw
  pub leaving : LeavingLaw

module _ (off : Bool) (laws : ImageLaws) {n m : ℕ} (e : ℕ) (raw : RawShape) (seed : ℕ) (rows : List (Row n)) (array : ArrayState n m) (ends : ℕ → BankEnd)
    (s : Saved n m) (left : IsLeftTo off e raw seed rows array s) (is : IsShape raw) (low : seed < 2 ^ 64) (right_run : RunsRightTo e raw seed off rows array ends)
    (of_ends : (bank : ℕ) → bank < raw.banks → IsEndOf (left.banks bank).bank.kept (ends bank)) where
  abbrev kept : ℕ → KeptState n
  kept bank = (left.banks bank).bank.kept

  abbrev saved : Saved n m
  saved = saved_of raw seed kept left.before

  part-at : (bank : ℕ) → bank < raw.banks → get_or (saved_banks kept raw.banks) bank (no_bank n) ≡ saved_bank (kept bank)
  part-at bank lt = get_or-map-range_with_len (λ b. saved_bank (kept b)) 0 raw.banks bank bank (no_bank n) lt (omega arith)

  cells-at : (line : ℕ) → line < left.before.lines → get_or (saved_cells left.before left.before.lines) line (zero_row n m) ≡ (left.before.line line).held
  cells-at line lt = get_or-map-range_with_len (λ l. (left.before.line l).held) 0 left.before.lines line line (zero_row n m) lt (omega arith)

  part-right : (bank : ℕ) → bank < raw.banks → IsSavedBank (head_of raw seed) (saved_bank (kept bank))
  part-right bank lt = bank-right raw seed bank (kept bank) (left.finished.leads bank lt).holds.kept (left.finished.shapes bank lt)

  saved-in : (most : SizeLimits) → IsHeadIn most (head_of raw seed) → AreRows array → IsSavedIn most saved
  saved-in most head are = record {
    head = head;
    one_each = length-map-range_with_len (λ b. saved_bank (kept b)) 0 raw.banks;
    parts = All-from_get_or (IsSavedBank (head_of raw seed)) (saved_banks kept raw.banks) (no_bank n)
        (λ bank lt.
        let few : bank < raw.banks = omega (arith, lt, length-map-range_with_len (λ b. saved_bank (kept b)) 0 raw.banks) in
        rw (part-at bank few) (part-right bank few));
    all_lines =
        length-map-range_with_len (λ l. (left.before.line l).held) 0 left.before.lines ∙ left.finished.size
        ∙ ap (λ k. raw.banks * k) (sym (lines-same raw seed));
    rows = All-from_get_or (IsSavedRow n m) (saved_cells left.before left.before.lines) (zero_row n m)
        (λ line lt.
        let few : line < left.before.lines = omega (arith, lt, length-map-range_with_len (λ l. (left.before.line l).held) 0 left.before.lines) in
        let some : line < array.lines = omega (arith, few, left.since.lines) in
        rw (cells-at line few) (subst (λ l. IsSavedRow n m l.held) (left.since.line line) (are line some)));
  }

  right : IsSmall raw → AreRows array → IsSaved saved
  right small are = saved-in small_limits (head-right raw seed is small low) are

  large : AreRows array → IsSavedIn large_limits saved
  large are = saved-in large_limits (head-large raw seed is low) are

  cells : (line : ℕ) → line < array.lines → get_or saved.cells line (zero_row n m) ≡ (array.line line).held
  cells line lt = cells-at line (omega (arith, lt, left.since.lines)) ∙ sym (ap (λ l. l.held) (left.since.line line))

  -- a line is worn now where it was
  worn-same : is_worn_at e left.before ≡ is_worn_at e array
  worn-same = ap (λ (line : ℕ → LineState n m). λ (at : ℕ). is_worn_line e (line at).held (line at).stuck) (sym (fun_ext left.since.line))

  -- of a bank
  module _ (bank : ℕ) (exists : bank < raw.banks) where
    abbrev shape : BankShape
    shape = bank_shape (module_of raw) bank

    abbrev clock : ClockState n m e
    clock = left.banks bank

    abbrev xs : List (TimedEvent n m)
    xs = left.history bank

    leads : Leads xs clock left.before
    leads = left.finished.leads bank exists

    same : (kept bank).shape ≡ shape
    same = left.finished.shapes bank exists

    rows-of : table_in raw seed bank rows ≡ table_of (kept bank).shape xs
    rows-of =
        ap (λ rs. table_in raw seed bank rs) left.rows_are
        ∙ laws.by_bank n m shape (bank_of_line raw seed) (line_in_bank raw seed) bank xs left.trace left.outcome (left.finished.asked bank exists) (left.finished.recorded bank exists)
        ∙ ap (λ (s : BankShape). table_of s xs) (sym same)

    sized-bank : IsSized (kept bank).shape clock.pace
    sized-bank =
        subst (λ (s : BankShape). IsSized s clock.pace) (sym same) (subst (λ (p : Pace). IsSized shape p) (sym (left.finished.paces bank exists)) (sized raw bank is))

    idle : EndsIn off (kept bank).shape clock.pace xs
    idle =
        subst (λ (s : BankShape). EndsIn off s clock.pace xs) (sym same) (subst (λ (p : Pace). EndsIn off shape p xs) (sym (left.finished.paces bank exists)) (left.finished.idle bank exists))

    leaves : LeavesArray e (kept bank).shape xs left.before
    leaves = laws.leaving n m e xs clock left.before leads

    agrees : AgreesWith (core xs) clock.bank
    agrees = laws.agree n m e (core xs) clock.bank left.before leads.holds

    -- its moves, by the rows
    moved : (region : ℕ) → region < raw.regions
        → is_moved_to off (kept bank).shape (is_worn_at e left.before) (table_of (kept bank).shape xs) region ((ends bank).moves region) ≡ true
    moved region lt =
        subst (λ (rs : List (Row n)). is_moved_to off (kept bank).shape (is_worn_at e left.before) rs region ((ends bank).moves region) ≡ true) rows-of
        (subst (λ (s : BankShape). is_moved_to off s (is_worn_at e left.before) (table_in raw seed bank rows) region ((ends bank).moves region) ≡ true) (sym same)
        (subst (λ (worn : ℕ → Bool). is_moved_to off shape worn (table_in raw seed bank rows) region ((ends bank).moves region) ≡ true) (sym worn-same)
        ((right_run.end bank exists).moved region lt)))

    abbrev part : SavedBank n
    part = get_or saved.parts bank (no_bank n)

    saved-end : SavesEnd (head_of raw seed) (bank_shape (module_of raw) bank) (is_worn_at e array) (table_in raw seed bank rows) (ends bank) part
    saved-end =
        rw (part-at bank exists)
        (subst (λ (worn : ℕ → Bool). SavesEnd (head_of raw seed) (bank_shape (module_of raw) bank) worn (table_in raw seed bank rows) (ends bank) (saved_bank (kept bank))) worn-same
        (subst (λ (rs : List (Row n)). SavesEnd (head_of raw seed) (bank_shape (module_of raw) bank) (is_worn_at e left.before) rs (ends bank) (saved_bank (kept bank))) (sym rows-of)
        (saves-end off raw seed bank clock.pace xs clock.bank left.before (ends bank) same is.some_psi leads.lawful leads.holds (of_ends bank exists) moved)))

    saved-queue : SavesQueue raw.psi (table_in raw seed bank rows) (ends bank) part
    saved-queue =
        rw (part-at bank exists)
        (subst (λ (s : BankShape). SavesQueue s.psi (table_in raw seed bank rows) (ends bank) (saved_bank (kept bank))) same
        (subst (λ (rs : List (Row n)). SavesQueue (kept bank).shape.psi rs (ends bank) (saved_bank (kept bank))) (sym rows-of)
        (saves-queue clock.pace xs clock.bank left.before sized-bank leads.lawful off idle leads.holds agrees leaves (ends bank) (of_ends bank exists))))

    saved-mark : SavesMarkTo off shape (is_worn_at e array) (table_in raw seed bank rows) part
    saved-mark =
        rw (part-at bank exists)
        (subst (λ (worn : ℕ → Bool). SavesMarkTo off shape worn (table_in raw seed bank rows) (saved_bank (kept bank))) worn-same
        (subst (λ (s : BankShape). SavesMarkTo off s (is_worn_at e left.before) (table_in raw seed bank rows) (saved_bank (kept bank))) same
        (subst (λ (rs : List (Row n)). SavesMarkTo off (kept bank).shape (is_worn_at e left.before) rs (saved_bank (kept bank))) (sym rows-of)
        (saves-mark clock.pace xs clock.bank left.before sized-bank leads.lawful off idle leads.holds agrees leaves))))

  -- of a line
  module _ (line : ℕ) (exists : line < total_of raw) where
    abbrev bank : ℕ
    bank = bank_of_line raw seed line

    abbrev own : ℕ
    own = line_in_bank raw seed line

    bank-there : bank < raw.banks
    bank-there = (laws.lines raw seed is).exists line exists

    own-there : own < raw.regions * raw.lines
    own-there = let some = mul-le 1 4 raw.regions raw.lines is.some_regions is.some_lines in mod-lt _ (omega (arith, some))

    by-history : kept_for e (kept bank) left.before own ≡ newest (table_of (kept bank).shape (left.history bank)) own
    by-history =
        let its = leads bank bank-there in
        its.holds.newest own (rw (same bank bank-there) own-there)
        ∙ sym (newest_same (kept bank).shape (left.banks bank).pace e (left.history bank) [] (left.history bank) own its.lawful
        (opens (kept bank).shape (left.banks bank).pace e (left.history bank) its.lawful) refl)

    by-rows : newest (table_of (kept bank).shape (left.history bank)) own ≡ newest rows line
    by-rows =
        let exist = All-map (λ (r : Row n). IsOfLines (total_of raw) r.asks) (row_with left.outcome) left.trace left.finished.exist in
        ap (λ t. newest t own) (sym (rows-of bank bank-there)) ∙ ap (λ rs. newest (table_in raw seed bank rs) own) left.rows_are
        ∙ newest_in_bank raw.banks (total_of raw) (bank_of_line raw seed) (line_in_bank raw seed) (laws.lines raw seed is) line exists (map (row_with left.outcome) left.trace) exist
        ∙ ap (λ rs. newest rs line) (sym left.rows_are)

    line-stands : stands_for e saved line ≡ newest rows line
    unfolding stands_for
    line-stands =
        ap (λ b. own_bytes e saved b bank own) (part-at bank bank-there)
        ∙ own-saved e raw seed kept left.before is left.finished.size bank bank-there (leads bank bank-there).holds.kept (same bank bank-there) own own-there
        ∙ by-history ∙ by-rows

  pub saves : SavesRunTo off e raw seed rows array ends s
  saves =
      subst (λ t. SavesRunTo off e raw seed rows array ends t) (sym left.saved)
      (record { head = refl; right = right; large = large; cells = cells; banks = saved-end; queues = saved-queue; marks = saved-mark; stands = line-stands })

pub saved_law : ImageLaws → (off : Bool) → SavedToLaw off
saved_law laws off n m e raw seed rows array ends s left is low right of_ends = saves off laws e raw seed rows array ends s left is low right of_ends
