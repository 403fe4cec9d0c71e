-- Every answer to a write keeps the invariant.
use Rattle.std.proofs.Common.{◌≡◌, ◌≢◌, ℕ, ◌+◌, ◌<◌, ◌==◌, Bool, true, false, if◌then◌else◌, nat_lt, List, [], ◌∷◌, ◌++◌, length, slice_get, Option, Some, None, IfSome, IsSomeAnd, refl, sym, subst, ap, ◌∙◌, arith, eqb-true}
use Rattle.std.proofs.lemmas.Bool.{eqb-false, lt-ltb}
use Rattle.cell_rows.specs.Device.{ArrayState}
use Rattle.ecp_line.{specs.ArrayLines.decoded, proofs.Bytes.length-decode}
use Rattle.masked_bytes.specs.Entries.{Layer, stacked, layer_of, candidate, candidate_index, newest_index, merged, merged_at, row_at, RowsApart, AllMasked}
use Rattle.masked_bytes.{specs.Masked.{laid, IsMasked}, specs.declared.entry.Entry.Entry, proofs.Layering.laid-laid}
use Rattle.masked_bytes.proofs.Queueing.{IsLayer, IsLayer-layer_of, layer_of-append, layer_of-append_other, newest_index-within, candidate_index-newest, candidate-index}
use Rattle.masked_bytes.proofs.{Queueing.{candidate-none, merged-row_at}, Standing.{layer_of-merged_at, layer_of-merged_other}}
use Rattle.protected_queue.specs.Queue.{accepted, accepted_by}
use Rattle.bank_shape.specs.{Kinds.{is_store, is_copy}, declared.BankShape.BankShape, declared.Work.Work, declared.Work.TheVariants.{Nothing, Store, Copy}}
use Rattle.bank_shape.specs.declared.waiting.Waiting.{Waiting}
use Rattle.bank_shape.specs.declared.answer.WriteAnswer.TheVariants as wrote
use Rattle.power_recovery.{specs.Events.accepted_kept, specs.Kept.{KeptState, next_work, stands_at}, proofs.Bundle.{IsKept-accepted, next_work-store, next_work-copy}}
use Rattle.power_recovery.proofs.Frames.{head-accepted_busy, next_work-accepted, next_work-due}
use Rattle.bank_model.{specs.Answers.{accept_answer, head_busy_after}, specs.Events.{BankEvent, Write, newest}, specs.History.{queue, has_exhausted}, proofs.Rising.RowsBelow-more}
use Rattle.bank_invariant.specs.{State.{Operation, target_of, is_storing}, Tied.{IsOf, IsRunning, AreTied}, Writes.{FullLaw, ExhaustedWriteLaw, AcceptedLaw, MergedLaw}}
use Rattle.bank_invariant.proofs.Quiet.{same_said}

-- Refused

pub full_law : FullLaw
full_law n m e row line bytes given h bank array holds above may =
    same_said h (Write row line bytes given wrote.Full ∷ h) bank array bank.lost (row + 1) holds refl (may, holds.past)
    (omega arith, RowsBelow-more h bank.rows_below row above holds.rows)

pub exhausted_write_law : ExhaustedWriteLaw
exhausted_write_law n m e row line bytes given h bank array holds above may =
    same_said h (Write row line bytes given wrote.Exhausted ∷ h) bank array bank.lost (row + 1) holds refl (may, holds.past)
    (omega arith, RowsBelow-more h bank.rows_below row above holds.rows)

-- What an answer says of the bank

pub answer_accepted : {n : ℕ} (shape : BankShape) (h : List (BankEvent n)) (worn : Bool) (found : Option ℕ)
    → wrote.Accepted ≡ (if worn then wrote.Exhausted else accept_answer shape h found)
    → (worn ≡ false) × (found ≡ None) × ((length (queue shape h) == shape.writes) ≡ false)
answer_accepted shape h true found e = cc
answer_accepted shape h false (Some old) e = cc
answer_accepted shape h false None e = (refl, refl, by (length (queue shape h) == shape.writes) e)
  where
    by : (full : Bool) → wrote.Accepted ≡ (if full then wrote.Full else wrote.Accepted) → full ≡ false
    by full e = grind arith

pub answer_merged : {n : ℕ} (shape : BankShape) (h : List (BankEvent n)) (worn : Bool) (found : Option ℕ) (old : ℕ)
    → wrote.Merged old ≡ (if worn then wrote.Exhausted else accept_answer shape h found) → (worn ≡ false) × (found ≡ Some old)
answer_merged shape h true found old e = cc
answer_merged shape h false (Some row) old e = let same : old ≡ row = cc in (refl, ap (λ r. Some r) (sym same))
answer_merged shape h false None old e = by (length (queue shape h) == shape.writes) e
  where
    by : (full : Bool) → wrote.Merged old ≡ (if full then wrote.Full else wrote.Accepted) → (false ≡ false) × (None ≡ Some old)
    by full e = grind arith

-- a write of a line lies over its entries, and leaves those of the others
record LiesOver {n : ℕ} (line : ℕ) (bytes : List ℕ) (given : List Bool) (es after : List (Entry n)) : Type 0 where
  own : layer_of after line ≡ stacked (record { bytes = bytes; given = given }) (layer_of es line)
  others : (other : ℕ) → (line == other) ≡ false → layer_of after other ≡ layer_of es other

-- so what stands for each line is as the write says
stands_over : {n : ℕ} (line at : ℕ) (bytes : List ℕ) (given : List Bool) (es after : List (Entry n)) (under before : List ℕ)
    → IsMasked n bytes given → AllMasked es → length under ≡ n → LiesOver line bytes given es after
    → laid (layer_of es at).bytes (layer_of es at).given under ≡ before
    → laid (layer_of after at).bytes (layer_of after at).given under ≡ (if line == at then laid bytes given before else before)
stands_over {n} line at bytes given es after under before masked all len lies old = by (line == at) refl
  where
    by : (b : Bool) → (line == at) ≡ b → laid (layer_of after at).bytes (layer_of after at).given under ≡ (if b then laid bytes given before else before)
    by true same =
        let top : Layer = record { bytes = bytes; given = given } in
        let is : line ≡ at = eqb-true line at same in
        let sized : IsLayer n (layer_of es at) = IsLayer-layer_of es at all in
        let own : layer_of after at ≡ stacked top (layer_of es at) = subst (λ (l : ℕ). layer_of after l ≡ stacked top (layer_of es l)) is lies.own in
        ap (λ (l : Layer). laid l.bytes l.given under) own
        ∙ laid-laid bytes given (layer_of es at).bytes (layer_of es at).given under
        (omega (arith, masked.bytes_len, masked.given_len)) (omega (arith, masked.bytes_len, sized.bytes_len))
        (omega (arith, masked.bytes_len, sized.given_len)) (omega (arith, masked.bytes_len, len))
        ∙ ap (λ xs. laid bytes given xs) old
    by false apart = ap (λ (l : Layer). laid l.bytes l.given under) (lies.others at apart) ∙ old

-- The queue

module _ {n : ℕ} where
  pub no_index : (busy : Bool) (es : List (Entry n)) (line : ℕ) → candidate busy es line ≡ None → candidate_index busy es line ≡ None
  no_index busy es line none = by (candidate_index busy es line) (λ i. candidate-index busy es line i)
    where
      by : (p : Option ℕ) → ((i : ℕ) → p ≡ Some i → candidate busy es line ≡ Some (row_at es i)) → p ≡ None
      by None at = refl
      by (Some i) at = let some : candidate busy es line ≡ Some (row_at es i) = at i refl in cc

  pub some_index : (busy : Bool) (es : List (Entry n)) (line old : ℕ) → candidate busy es line ≡ Some old
      → (i : ℕ) × (candidate_index busy es line ≡ Some i) × (row_at es i ≡ old)
  some_index busy es line old some = by (candidate_index busy es line) (λ i. candidate-index busy es line i) (candidate-none busy es line)
    where
      by : (p : Option ℕ) → ((i : ℕ) → p ≡ Some i → candidate busy es line ≡ Some (row_at es i)) → (p ≡ None → candidate busy es line ≡ None)
          → (i : ℕ) × (p ≡ Some i) × (row_at es i ≡ old)
      by None at none = let no : candidate busy es line ≡ None = none refl in absurd cc
      by (Some i) at none = let there : candidate busy es line ≡ Some (row_at es i) = at i refl in (i, refl, cc)

  appends : (cap : ℕ) (busy : Bool) (entry : Entry n) (es : List (Entry n)) → candidate busy es entry.line ≡ None → length es < cap
      → accepted cap busy entry es ≡ es ++ entry ∷ []
  appends cap busy entry es none room =
      ap (λ p. accepted_by p (nat_lt (length es) cap) entry es) (no_index busy es entry.line none)
      ∙ ap (λ b. accepted_by None b entry es) (lt-ltb (length es) cap room)

  appended-over : (es : List (Entry n)) (entry : Entry n) → AllMasked es → IsMasked n entry.bytes entry.given
      → LiesOver entry.line entry.bytes entry.given es (es ++ entry ∷ [])
  appended-over es entry all masked = record {
    own = layer_of-append es entry entry.line all masked refl;
    others = λ other apart. layer_of-append_other es entry other apart;
  }

  -- a merge by the row of the entry is one by its index
  merges : (cap : ℕ) (busy : Bool) (entry : Entry n) (es : List (Entry n)) (i old : ℕ) → RowsApart es
      → candidate_index busy es entry.line ≡ Some i → row_at es i ≡ old
      → accepted cap busy entry es ≡ merged old entry.row entry.bytes entry.given es
  merges cap busy entry es i old apart place row =
      let there : i < length es = newest_index-within es entry.line i (candidate_index-newest busy es entry.line i place) in
      ap (λ p. accepted_by p (nat_lt (length es) cap) entry es) place
      ∙ sym (merged-row_at es i entry.row entry.bytes entry.given apart there)
      ∙ ap (λ r. merged r entry.row entry.bytes entry.given es) row

  merges_at : (cap : ℕ) (busy : Bool) (entry : Entry n) (es : List (Entry n)) (i : ℕ) → candidate_index busy es entry.line ≡ Some i
      → accepted cap busy entry es ≡ merged_at i entry.row entry.bytes entry.given es
  merges_at cap busy entry es i place = ap (λ p. accepted_by p (nat_lt (length es) cap) entry es) place

  merged-over : (busy : Bool) (es : List (Entry n)) (entry : Entry n) (i : ℕ) → AllMasked es → IsMasked n entry.bytes entry.given
      → candidate_index busy es entry.line ≡ Some i → LiesOver entry.line entry.bytes entry.given es (merged_at i entry.row entry.bytes entry.given es)
  merged-over busy es entry i all masked place =
      let newest : newest_index es entry.line ≡ Some i = candidate_index-newest busy es entry.line i place in
      record {
        own = layer_of-merged_at es entry.line i entry.row entry.bytes entry.given all masked newest;
        others = λ other apart. layer_of-merged_other es entry.line other i entry.row entry.bytes entry.given newest apart;
      }

  -- a head that is being stored stays
  head-taken : (cap : ℕ) (entry : Entry n) (es : List (Entry n)) (P : Entry n → Type 0)
      → IsSomeAnd (slice_get es 0) P → IsSomeAnd (slice_get (accepted cap true entry es) 0) P
  head-taken cap entry [] P h = absurd h
  head-taken cap entry (f ∷ es) P h =
      let Q : Option (Entry n) → Type 0 = λ o. IsSomeAnd o P in
      subst Q (sym (head-accepted_busy cap entry f es)) h

-- The line write in progress

-- the array line that a work writes stays
target-taken : {n : ℕ} (kept : KeptState n) (busy : Bool) (entry : Entry n) (work : Work) → target_of (accepted_kept busy entry kept) work ≡ target_of kept work
target-taken kept busy entry work = grind arith

module _ {n m : ℕ} where
  -- the next work stays
  next-taken : (e : ℕ) (kept : KeptState n) (array : ArrayState n m) (waiting : List (Waiting n)) (bytes : List ℕ) (busy : Bool) (entry : Entry n) (work : Work)
      → IsOf e kept array waiting bytes work → work ≡ next_work kept → next_work (accepted_kept busy entry kept) ≡ next_work kept
  next-taken e kept array waiting bytes busy entry Nothing of next = absurd of
  next-taken e kept array waiting bytes busy entry (Store line slot) of next =
      let store = next_work-store kept (ap is_store (sym next)) in
      next_work-accepted kept busy entry store.2
  next-taken e kept array waiting bytes busy entry (Copy region step) of next =
      let copy = next_work-copy kept (ap is_copy (sym next)) in
      next_work-due kept (accepted kept.shape.writes busy entry kept.entries) copy.1.0 copy.1.1

  of-taken : (e : ℕ) (kept : KeptState n) (array : ArrayState n m) (waiting : List (Waiting n)) (bytes : List ℕ) (busy : Bool) (entry : Entry n) (work : Work)
      → busy ≡ is_store work → IsOf e kept array waiting bytes work → IsOf e (accepted_kept busy entry kept) array waiting bytes work
  of-taken e kept array waiting bytes busy entry Nothing is of = absurd of
  of-taken e kept array waiting bytes true entry (Store line slot) is of = (head-taken kept.shape.writes entry kept.entries _ of.0, of.1)
  of-taken e kept array waiting bytes false entry (Store line slot) is of = cc
  of-taken e kept array waiting bytes busy entry (Copy region step) is of = of

  -- a line write in progress stays that of the next work
  operation-taken : {e : ℕ} (kept : KeptState n) (array : ArrayState n m) (waiting : List (Waiting n)) (busy : Bool) (entry : Entry n) (running : Option (Operation n m e))
      → busy ≡ is_storing running → IfSome running (IsRunning kept array waiting) → IfSome running (IsRunning (accepted_kept busy entry kept) array waiting)
  operation-taken {e} kept array waiting busy entry None is runs = tt
  operation-taken {e} kept array waiting busy entry (Some op) is runs = record {
    next = runs.next ∙ sym (next-taken e kept array waiting op.writer.bytes busy entry op.work runs.of runs.next);
    target = runs.target ∙ sym (target-taken kept busy entry op.work);
    of = of-taken e kept array waiting op.writer.bytes busy entry op.work is runs.of;
    writing = runs.writing;
  }

  -- a bank that isn't exhausted stays tied to its array
  pub tied-taken : {e : ℕ} (kept : KeptState n) (array : ArrayState n m) (waiting : List (Waiting n)) (busy : Bool) (entry : Entry n) (running : Option (Operation n m e))
      → busy ≡ is_storing running → kept.exhausted ≡ false → AreTied kept running waiting array → AreTied (accepted_kept busy entry kept) running waiting array
  tied-taken {e} kept array waiting busy entry running is going tied = record {
    lines = tied.lines;
    sound = record { apart = tied.sound.apart; slots = tied.sound.slots; spares = tied.sound.spares; worn = tied.sound.worn };
    unused = tied.unused;
    orderly = tied.orderly;
    operation = operation-taken kept array waiting busy entry running is tied.operation;
    exhausted = λ mark. let no : kept.exhausted ≡ true = mark in absurd cc;
  }

-- Taken

pub accepted_law : AcceptedLaw
accepted_law n m e row line bytes given busy h bank array holds above may storing agrees =
    let entry : Entry n = record { row = row; line = line; bytes = bytes; given = given } in
    let kept : KeptState n = bank.kept in
    let cap : ℕ = kept.shape.writes in
    let told = answer_accepted kept.shape h (has_exhausted h) (candidate (head_busy_after kept.shape h) (queue kept.shape h) line) may.2 in
    let going : kept.exhausted ≡ false = holds.exhausted ∙ told.0 in
    let found : candidate busy kept.entries line ≡ None =
    ap (λ b. candidate b kept.entries line) agrees ∙ ap (λ es. candidate (head_busy_after kept.shape h) es line) holds.entries ∙ told.1 in
    let len : length kept.entries ≡ length (queue kept.shape h) = ap length holds.entries in
    let off : length (queue kept.shape h) ≢ cap = eqb-false (length (queue kept.shape h)) cap told.2 in
    let room : length kept.entries < cap = omega (arith, holds.kept.few_entries, len, off) in
    let after : accepted cap busy entry kept.entries ≡ kept.entries ++ entry ∷ [] = appends cap busy entry kept.entries found room in
    let P : List (Entry n) → Type 0 = λ es. LiesOver line bytes given kept.entries es in
    let lies : LiesOver line bytes given kept.entries (accepted cap busy entry kept.entries) = subst P (sym after) (appended-over kept.entries entry holds.kept.masked may.1) in
    record {
      past = (may, holds.past);
      newest = λ at below.
          stands_over line at bytes given kept.entries (accepted cap busy entry kept.entries) (decoded e array (stands_at kept at)) (newest h at) may.1 holds.kept.masked
          (length-decode e (array.line (stands_at kept at)).held) lies (holds.newest at below);
      waiting = holds.waiting;
      few_waiting = holds.few_waiting;
      served = holds.served;
      running = holds.running;
      steps = holds.steps;
      rounds = holds.rounds;
      tied = tied-taken kept array bank.waiting busy entry bank.running storing going holds.tied;
      regions = holds.regions;
      due_last = holds.due_last;
      entries = after ∙ ap (λ es. es ++ entry ∷ []) holds.entries;
      table = holds.table;
      exhausted = holds.exhausted;
      rows = (omega arith, RowsBelow-more h bank.rows_below row above holds.rows);
      kept = IsKept-accepted kept busy entry holds.kept may.1 may.0;
    }

pub merged_law : MergedLaw
merged_law n m e row line old bytes given busy h bank array holds above may storing agrees apart =
    let entry : Entry n = record { row = row; line = line; bytes = bytes; given = given } in
    let kept : KeptState n = bank.kept in
    let cap : ℕ = kept.shape.writes in
    let told = answer_merged kept.shape h (has_exhausted h) (candidate (head_busy_after kept.shape h) (queue kept.shape h) line) old may.2 in
    let going : kept.exhausted ≡ false = holds.exhausted ∙ told.0 in
    let found : candidate busy kept.entries line ≡ Some old =
    ap (λ b. candidate b kept.entries line) agrees ∙ ap (λ es. candidate (head_busy_after kept.shape h) es line) holds.entries ∙ told.1 in
    let at_index = some_index busy kept.entries line old found in
    let i : ℕ = at_index.0 in
    let place : candidate_index busy kept.entries line ≡ Some i = at_index.1 in
    let Apart : List (Entry n) → Type 0 = λ es. RowsApart es in
    let own_apart : RowsApart kept.entries = subst Apart (sym holds.entries) apart in
    let after : accepted cap busy entry kept.entries ≡ merged_at i row bytes given kept.entries = merges_at cap busy entry kept.entries i place in
    let P : List (Entry n) → Type 0 = λ es. LiesOver line bytes given kept.entries es in
    let lies : LiesOver line bytes given kept.entries (accepted cap busy entry kept.entries) = subst P (sym after) (merged-over busy kept.entries entry i holds.kept.masked may.1 place) in
    record {
      past = (may, holds.past);
      newest = λ at below.
          stands_over line at bytes given kept.entries (accepted cap busy entry kept.entries) (decoded e array (stands_at kept at)) (newest h at) may.1 holds.kept.masked
          (length-decode e (array.line (stands_at kept at)).held) lies (holds.newest at below);
      waiting = holds.waiting;
      few_waiting = holds.few_waiting;
      served = holds.served;
      running = holds.running;
      steps = holds.steps;
      rounds = holds.rounds;
      tied = tied-taken kept array bank.waiting busy entry bank.running storing going holds.tied;
      regions = holds.regions;
      due_last = holds.due_last;
      entries = merges cap busy entry kept.entries i old own_apart place at_index.2 ∙ ap (λ es. merged old row bytes given es) holds.entries;
      table = holds.table;
      exhausted = holds.exhausted;
      rows = (omega arith, RowsBelow-more h bank.rows_below row above holds.rows);
      kept = IsKept-accepted kept busy entry holds.kept may.1 may.0;
    }
