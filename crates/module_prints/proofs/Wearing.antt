-- How a wear report comes about, row by row.
use Rattle.std.proofs.Common.{◌≡◌, ℕ, zero, suc, ◌+◌, ◌-◌, ◌*◌, ◌/◌, ◌<◌, ◌≤◌, inl, inr, List, [], ◌∷◌, ◌++◌, length, Option, Some, refl, ap, ◌∙◌, subst, arith, append_assoc}
use Rattle.std.{specs.Io.KnownBytes.Appends, specs.Prelude.{slice_get, IsSomeAnd}, proofs.Math.Nat.{one-le-mul, div-lt_iff_lt-mul, mul-div_cancel_left}}
use Rattle.std.proofs.{lemmas.Bool.cases_eq, lemmas.List.{append-nil, length_push}}
use Rattle.cell_rows.specs.Device.{ArrayState}
use Rattle.pcm_io.specs.{Giving.AppendsPrefix, Reserved.Reserved}
use Rattle.bank_shape.specs.declared.Role.{Role}
use Rattle.module_shape.specs.{Addresses.{module_of, array_lines_of, bank_shape}, Limits.IsShape, declared.raw.RawShape.RawShape}
use Rattle.right_runs.specs.{Banks.line_named, Ends.BankEnd, Roles.IsRole}
use Rattle.run_text.specs.Gathering.{Printed}
use Rattle.pcm_module.specs.State.{AreEndsOf, ModuleState}
use Rattle.module_prints.specs.WearReports.{HaveRoles, IsWearReport, IsWearRow, bank_with}

-- a list that goes on, read where it was before, and at its new end
get-before : {A : Type 0} (xs ys : List A) (i : ℕ) → i < length xs → slice_get (xs ++ ys) i ≡ slice_get xs i
get-before [] ys i within = absurd (omega arith)
get-before (x ∷ xs) ys zero within = refl
get-before (x ∷ xs) ys (suc i) within = get-before xs ys i (omega arith)

get-last : {A : Type 0} (xs : List A) (x : A) → slice_get (xs ++ x ∷ []) (length xs) ≡ Some x
get-last [] x = refl
get-last (y ∷ xs) x = get-last xs x

module _ {n m : ℕ} (raw : RawShape) (seed : ℕ) (ends : ℕ → BankEnd) (array : ArrayState n m) where
  -- the rows of the first i array lines
  pub record HasWorn (i : ℕ) (rows : List (ℕ × ℕ × Role)) : Type 0 where
    pub size : length rows ≡ i
    pub each : (line : ℕ) → line < i → IsSomeAnd (slice_get rows line) (IsWearRow raw seed ends array line)

  pub worn-none : HasWorn 0 []
  worn-none = record { size = refl; each = λ line below. absurd (omega arith) }

  some-row : (rows : List (ℕ × ℕ × Role)) (line : ℕ) (row : ℕ × ℕ × Role) → slice_get rows line ≡ Some row → IsWearRow raw seed ends array line row
      → IsSomeAnd (slice_get rows line) (IsWearRow raw seed ends array line)
  some-row rows line row at is = rw at is

  -- the row of the next one
  pub worn-more : (i : ℕ) (rows : List (ℕ × ℕ × Role)) (row : ℕ × ℕ × Role) → HasWorn i rows → IsWearRow raw seed ends array i row → HasWorn (i + 1) (rows ++ row ∷ [])
  worn-more i rows row had is = record {
    size = length_push rows row ∙ ap (λ k. k + 1) had.size;
    each = λ line below. elim (cases_eq line i) [
      | inl same ↦
          let last : slice_get (rows ++ row ∷ []) line ≡ Some row = rw (same, ← had.size) (get-last rows row) in
          let mine : IsWearRow raw seed ends array line row = rw same is in
          some-row (rows ++ row ∷ []) line row last mine
      | inr other ↦
          let size = had.size in
          rw (get-before rows (row ∷ []) line (omega arith)) (had.each line (omega arith))
    ];
  }

  worn-whole : (i : ℕ) (rows : List (ℕ × ℕ × Role)) → i ≡ array.lines → HasWorn i rows → IsWearReport raw seed ends array rows
  worn-whole i rows all had = record { one_each = had.size ∙ all; each = λ line below. had.each line (omega arith) }

  -- the bank of an array line
  bank-exists : IsShape raw → (line : ℕ) → line < raw.banks * array_lines_of (module_of raw) → bank_with raw line < raw.banks
  bank-exists shape line below =
      let slots : 1 ≤ raw.regions * (raw.lines + 1) = one-le-mul shape.some_regions (omega arith) in
      (div-lt_iff_lt-mul {k = array_lines_of (module_of raw)} {x = line} {y = raw.banks} (omega arith)).1 below

  -- each array line has a row
  pub a-row : IsShape raw → HaveRoles raw seed ends → (line : ℕ) → line < raw.banks * array_lines_of (module_of raw)
      → (row : ℕ × ℕ × Role) × IsWearRow raw seed ends array line row
  a-row shape roles line below =
      let bank = bank_with raw line in
      let exists = bank-exists shape line below in
      let one = roles bank line exists in
      ((bank, (array.line line).pulses, one.role), record { bank = refl; pulses = refl; role = one.is })

  -- so the rows so far go on to a whole report
  worn-rest : IsShape raw → HaveRoles raw seed ends → (count i : ℕ) (rows : List (ℕ × ℕ × Role)) → i + count ≤ raw.banks * array_lines_of (module_of raw) → HasWorn i rows
      → (later : List (ℕ × ℕ × Role)) × HasWorn (i + count) (rows ++ later)
  worn-rest shape roles zero i rows within had =
      let none : i + 0 ≡ i = omega arith in
      ([], rw (append-nil rows, none) had)
  worn-rest shape roles (suc count) i rows within had =
      let row = a-row shape roles i (omega arith) in
      let rest = worn-rest shape roles count (i + 1) (rows ++ row.0 ∷ []) (omega arith) (worn-more i rows row.0 had row.1) in
      let next : i + 1 + count ≡ i + suc count = omega arith in
      let At : List (ℕ × ℕ × Role) → Type 0 = λ rs. HasWorn (i + suc count) rs in
      let Upto : ℕ → Type 0 = λ k. HasWorn k ((rows ++ row.0 ∷ []) ++ rest.0) in
      (row.0 ∷ rest.0, subst At (append_assoc rows (row.0 ∷ []) rest.0) (subst Upto next rest.1))

  pub worn-goes_on : IsShape raw → HaveRoles raw seed ends → (i : ℕ) (rows : List (ℕ × ℕ × Role)) → array.lines ≡ raw.banks * array_lines_of (module_of raw) → i ≤ array.lines → HasWorn i rows
      → (later : List (ℕ × ℕ × Role)) × IsWearReport raw seed ends array (rows ++ later)
  worn-goes_on shape roles i rows size within had =
      let rest = worn-rest shape roles (array.lines - i) i rows (omega arith) had in
      (rest.0, worn-whole (i + (array.lines - i)) (rows ++ rest.0) (omega arith) rest.1)

  pub worn-all : (i : ℕ) (rows : List (ℕ × ℕ × Role)) → i ≡ array.lines → HasWorn i rows → IsWearReport raw seed ends array rows
  worn-all i rows all had = worn-whole i rows all had

-- of a report whose text is this, the rows of the first i array lines are printed, and they are right by whatever ends the module's banks have
pub record IsReported {n m e : ℕ} (text_of : List (ℕ × ℕ × Role) → List ℕ) (pcm : ModuleState n m e) (array : ArrayState n m) (i : ℕ) (text : Reserved) (before now : Option (List ℕ)) : Type 0 where
  pub rows : List (ℕ × ℕ × Role)
  pub size : length rows ≡ i
  pub worn : (ends : ℕ → BankEnd) → AreEndsOf pcm ends → HasWorn pcm.shape pcm.seed ends array i rows
  pub printed : Printed before now text (text_of rows)

module _ {n m e : ℕ} (text_of : List (ℕ × ℕ × Role) → List ℕ) (pcm : ModuleState n m e) (array : ArrayState n m) where
  pub reported-none : (text : Reserved) (before : Option (List ℕ)) → Printed before before text (text_of []) → IsReported text_of pcm array 0 text before before
  reported-none text before header = record {
    rows = [];
    size = refl;
    worn = λ ends are. worn-none pcm.shape pcm.seed ends array;
    printed = header;
  }

  pub reported-more : (i : ℕ) (old new : Reserved) (before was now : Option (List ℕ)) (bank pulses : ℕ) (role : Role)
      → IsReported text_of pcm array i old before was → bank ≡ bank_with pcm.shape i → pulses ≡ (array.line i).pulses
      → ((ends : ℕ → BankEnd) → AreEndsOf pcm ends → IsRole (bank_shape (module_of pcm.shape) (bank_with pcm.shape i)) (line_named pcm.shape pcm.seed (bank_with pcm.shape i)) (ends (bank_with pcm.shape i)) i role)
      → ((before : Option (List ℕ)) (rows : List (ℕ × ℕ × Role)) → length rows ≡ i → Printed before was old (text_of rows) → Printed before now new (text_of (rows ++ (bank, pulses, role) ∷ [])))
      → IsReported text_of pcm array (i + 1) new before now
  reported-more i old new before was now bank pulses role had of counted has prints = record {
    rows = had.rows ++ (bank, pulses, role) ∷ [];
    size = length_push had.rows (bank, pulses, role) ∙ ap (λ k. k + 1) had.size;
    worn = λ ends are. worn-more pcm.shape pcm.seed ends array i had.rows (bank, pulses, role) (had.worn ends are) (record { bank = of; pulses = counted; role = has ends are });
    printed = prints before had.rows had.size had.printed;
  }

  -- at a fault first bytes of a whole report were written
  pub reported-part : (i : ℕ) (before now : Option (List ℕ)) (rows : List (ℕ × ℕ × Role)) → IsShape pcm.shape → array.lines ≡ pcm.shape.banks * array_lines_of (module_of pcm.shape) → i ≤ array.lines
      → ((ends : ℕ → BankEnd) → AreEndsOf pcm ends → HasWorn pcm.shape pcm.seed ends array i rows)
      → ((later : List (ℕ × ℕ × Role)) → AppendsPrefix before now (text_of (rows ++ later)))
      → (ends : ℕ → BankEnd) → AreEndsOf pcm ends → HaveRoles pcm.shape pcm.seed ends
      → (whole : List (ℕ × ℕ × Role)) × IsWearReport pcm.shape pcm.seed ends array whole × AppendsPrefix before now (text_of whole)
  reported-part i before now rows shape size within worn part ends are roles =
      let rest = worn-goes_on pcm.shape pcm.seed ends array shape roles i rows size within (worn ends are) in
      (rows ++ rest.0, rest.1, part rest.0)

  -- at the end the whole report is written
  pub reported-whole : (i : ℕ) (text : Reserved) (before was now : Option (List ℕ)) → i ≡ array.lines → IsReported text_of pcm array i text before was
      → ((before : Option (List ℕ)) (whole : List ℕ) → Printed before was text whole → Appends before now whole)
      → (ends : ℕ → BankEnd) → AreEndsOf pcm ends → HaveRoles pcm.shape pcm.seed ends
      → (whole : List (ℕ × ℕ × Role)) × IsWearReport pcm.shape pcm.seed ends array whole × Appends before now (text_of whole)
  reported-whole i text before was now all had writes ends are roles =
      (had.rows, worn-all pcm.shape pcm.seed ends array i had.rows all (had.worn ends are), writes before (text_of had.rows) had.printed)

  pub reported-last : (i : ℕ) (text : Reserved) (before was now : Option (List ℕ)) → i ≡ array.lines → IsReported text_of pcm array i text before was
      → ((before : Option (List ℕ)) (whole : List ℕ) → Printed before was text whole → AppendsPrefix before now whole)
      → (ends : ℕ → BankEnd) → AreEndsOf pcm ends → HaveRoles pcm.shape pcm.seed ends
      → (whole : List (ℕ × ℕ × Role)) × IsWearReport pcm.shape pcm.seed ends array whole × AppendsPrefix before now (text_of whole)
  reported-last i text before was now all had writes ends are roles =
      (had.rows, worn-all pcm.shape pcm.seed ends array i had.rows all (had.worn ends are), writes before (text_of had.rows) had.printed)

-- a bank of a module has as many array lines as all banks by their number
pub lines-of-bank : (banks lines all : ℕ) → 1 ≤ banks → all ≡ banks * lines → all / banks ≡ lines
lines-of-bank banks lines all some is = rw is (mul-div_cancel_left lines (omega arith))
