-- A bank answers a write as its history says.
use Rattle.std.proofs.Common.{◌≡◌, ℕ, ◌<◌, ◌≤◌, ◌==◌, Bool, true, false, if◌then◌else◌, nat_lt, List, length, Option, Some, None, refl, sym, ap, ◌∙◌, arith, eq-eqb, ltb-true, ltb-false}
use Rattle.std.proofs.lemmas.Bool.{ne_eqb}
use Rattle.masked_bytes.{specs.Entries.{candidate, candidate_index, row_at}, specs.declared.entry.Entry.Entry, proofs.Queueing.{candidate-index, candidate-none}}
use Rattle.protected_queue.specs.declared.accept.Accept.TheVariants as took
use Rattle.protected_queue.specs.Queue as taking
use Rattle.power_recovery.specs.{Events.{with_entries, accepted_kept}, Kept.KeptState}
use Rattle.bank_shape.specs.declared.BankShape.{BankShape}
use Rattle.bank_shape.specs.declared.answer.WriteAnswer.TheVariants as wrote
use Rattle.bank_model.specs.{Answers.{accept_answer, head_busy_after}, Events.BankEvent, History.{queue, has_exhausted}}
use Rattle.bank_invariant.specs.WriteAnswers.{written, WriteAnswerLaw, RefusalLaw}

-- the queue answers by whether there is room and where the candidate stands, the history by whether it is full and by the candidate's row
by_room : {n : ℕ} (shape : BankShape) (h : List (BankEvent n)) (es : List (Entry n)) (index row : Option ℕ) (room : Bool)
    → ((i : ℕ) → index ≡ Some i → row ≡ Some (row_at es i)) → (index ≡ None → row ≡ None)
    → (room ≡ true → (length (queue shape h) == shape.writes) ≡ false) → (room ≡ false → (length (queue shape h) == shape.writes) ≡ true)
    → written (taking.answer_by index room es) ≡ accept_answer shape h row
by_room shape h es (Some i) row room there nowhere some none = rw (there i refl) refl
by_room shape h es None row true there nowhere some none = rw (nowhere refl, some refl) refl
by_room shape h es None row false there nowhere some none = rw (nowhere refl, none refl) refl

pub write_answer_law : WriteAnswerLaw
write_answer_law n m e line busy h bank array holds going agrees =
    let shape : BankShape = bank.kept.shape in
    let len : length bank.kept.entries ≡ length (queue shape h) = ap length holds.entries in
    let few : length bank.kept.entries ≤ shape.writes = holds.kept.few_entries in
    let no : has_exhausted h ≡ false = sym holds.exhausted ∙ going in
    let found : candidate busy bank.kept.entries line ≡ candidate (head_busy_after shape h) (queue shape h) line =
    ap (λ b. candidate b bank.kept.entries line) agrees ∙ ap (λ es. candidate (head_busy_after shape h) es line) holds.entries in
    by_room shape h bank.kept.entries (candidate_index busy bank.kept.entries line) (candidate busy bank.kept.entries line)
    (nat_lt (length bank.kept.entries) shape.writes)
    (candidate-index busy bank.kept.entries line) (candidate-none busy bank.kept.entries line)
    (λ room.
    let below : length bank.kept.entries < shape.writes = ltb-true (length bank.kept.entries) shape.writes room in
    ne_eqb (length (queue shape h)) shape.writes (λ same. omega (arith, len, below, same)))
    (λ full.
    let above : shape.writes ≤ length bank.kept.entries = ltb-false (length bank.kept.entries) shape.writes full in
    eq-eqb (length (queue shape h)) shape.writes (omega (arith, len, few, above)))
    ∙ ap (λ c. accept_answer shape h c) found
    ∙ ap (λ b. if b then wrote.Exhausted else accept_answer shape h (candidate (head_busy_after shape h) (queue shape h) line)) (sym no)

pub refusal_law : RefusalLaw
refusal_law n m e line h bank array holds worn =
    let yes : has_exhausted h ≡ true = sym holds.exhausted ∙ worn in
    ap (λ b. if b then wrote.Exhausted else accept_answer bank.kept.shape h (candidate (head_busy_after bank.kept.shape h) (queue bank.kept.shape h) line)) (sym yes)

full_by : {n : ℕ} (es : List (Entry n)) (index : Option ℕ) (room : Bool) → taking.answer_by index room es ≡ took.Full → (index ≡ None) × (room ≡ false)
full_by es index room e = grind arith

-- a full queue leaves what the bank keeps
pub kept-full : {n : ℕ} (busy : Bool) (entry : Entry n) (kept : KeptState n)
    → taking.accept_answer kept.shape.writes busy kept.entries entry.line ≡ took.Full → accepted_kept busy entry kept ≡ kept
kept-full busy entry kept full =
    let parts = full_by kept.entries (candidate_index busy kept.entries entry.line) (nat_lt (length kept.entries) kept.shape.writes) full in
    ap (λ p. with_entries kept (taking.accepted_by p (nat_lt (length kept.entries) kept.shape.writes) entry kept.entries)) parts.0
    ∙ ap (λ b. with_entries kept (taking.accepted_by None b entry kept.entries)) parts.1
