-- That what a bank answers keeps the invariant.
use Rattle.std.proofs.Common.{◌≡◌, ◌≢◌, ℕ, ◌<◌, ◌≤◌, ◌==◌, cond, refl, sym, ap, subst, ◌∙◌, arith, true, false, List, [], ◌∷◌, ◌++◌, drop, length, length-append, slice_get, Some, ltb, eq-eqb}
use Rattle.std.{specs.Prelude.All, proofs.lemmas.Bool.{ne_eqb, ltb-true, ltb-false}, proofs.lemmas.List.Elements.{All-push, All-drop}}
use Rattle.bank_model.{specs.Answers.MayHappen, specs.Events.{BankEvent, Read, Serve}, proofs.Waits.waits-some}
use Rattle.masked_bytes.specs.{Entries.{layer_of, AllMasked}, Masked.{laid, gives_all}}
use Rattle.cell_rows.specs.Device.{ArrayState}
use Rattle.ecp_line.specs.Reading.{decode}
use Rattle.line_writer.specs.Writing.{most_steps}
use Rattle.power_recovery.specs.{Events.completed_kept, Kept.{KeptState, IsKept, stands_at}, Slots.bank_lines}
use Rattle.bank_shape.specs.{declared.answer.ReadAnswer.ReadAnswer, declared.answer.Served.Served, declared.waiting.Waiting.Waiting}
use Rattle.bank_shape.specs.declared.answer.ReadAnswer.TheVariants as came
use Rattle.bank_invariant.specs.{Holds.Holds, Serving.{kept_with, read_from, served_from, served}, State.BankState, Tied.{StandsAs, IsTied}}
use Rattle.bank_invariant.proofs.Awaiting.{may_read_law, waiting_law, may_serve_law, served_law, tied_waiting, tied_sensed, gives_all-head}
use Rattle.bank_invariant.proofs.Quiet.{same_said, forwarded_law, busy_law}
use Rattle.bank_core.specs.{Bank.IsBank, Steps.{after_read, lost_taken}}

-- the first of a list stands before the others
pub first_of : {n : ℕ} (ws : List (Waiting n)) (w : Waiting n) → Some w ≡ slice_get ws 0 → ws ≡ w ∷ drop 1 ws
first_of [] w is = cc
first_of (v ∷ ws) w is = cc

module _ {n m e : ℕ} where
  pub read_law : (row line : ℕ) (h : List (BankEvent n)) (bank : BankState n m e) (array : ArrayState n m) (answer : ReadAnswer n)
      → answer ≡ read_from bank line → line < bank_lines bank.kept.shape → bank.rows_below ≤ row
      → Holds h bank array → Holds (Read row line answer ∷ h) (after_read bank row line answer) array
  read_law row line h bank array answer is below above holds = by answer may
    where
      may : MayHappen bank.kept.shape h (most_steps e) (Read row line answer)
      may = subst (λ (a : ReadAnswer n). MayHappen bank.kept.shape h (most_steps e) (Read row line a)) (sym is) (may_read_law n m e row line h bank array holds below)

      by : (answer : ReadAnswer n) → MayHappen bank.kept.shape h (most_steps e) (Read row line answer) → Holds (Read row line answer ∷ h) (after_read bank row line answer) array
      by (came.Forwarded bytes) may = forwarded_law n m e row line bytes h bank array holds above may
      by came.Waiting may = waiting_law n m e row line h bank array holds above may
      by came.Busy may = busy_law n m e row line h bank array holds above may

  pub read_tied : (row line : ℕ) (bank : BankState n m e) (array : ArrayState n m) (answer : ReadAnswer n)
      → answer ≡ read_from bank line → AllMasked bank.kept.entries → IsTied bank array → IsTied (after_read bank row line answer) array
  read_tied row line bank array (came.Forwarded bytes) is masked tied = tied
  read_tied row line bank array came.Busy is masked tied = tied
  read_tied row line bank array came.Waiting is masked tied =
      let w : Waiting n = kept_with row line (layer_of bank.kept.entries line) in
      let not = waits-some (gives_all ((layer_of bank.kept.entries line).given)) (length bank.waiting == bank.kept.shape.reads) (layer_of bank.kept.entries line).bytes is in
      tied_waiting e bank.kept array bank.running bank.waiting (bank.waiting ++ w ∷ [])
      (λ at bytes whole off. All-push (λ w. w.line ≢ at) bank.waiting w off
      (λ same.
      let given : gives_all ((layer_of bank.kept.entries at).given) ≡ true = gives_all-head bank.kept.entries at bytes masked whole in
      let there : gives_all ((layer_of bank.kept.entries line).given) ≡ true = ap (λ at. gives_all ((layer_of bank.kept.entries at).given)) same ∙ given in
      cc))
      tied

  pub from_queue : (bank : BankState n m e) (line : ℕ) → gives_all ((layer_of bank.kept.entries line).given) ≡ true
      → came.Forwarded (layer_of bank.kept.entries line).bytes ≡ read_from bank line
  from_queue bank line all =
      sym (ap (λ b. cond b (came.Forwarded (layer_of bank.kept.entries line).bytes) (cond (length bank.waiting == bank.kept.shape.reads) came.Busy came.Waiting)) all)

  pub to_wait : (bank : BankState n m e) (line : ℕ) → gives_all ((layer_of bank.kept.entries line).given) ≡ false → length bank.waiting < bank.kept.shape.reads
      → ◌≡◌ {A = ReadAnswer n} came.Waiting (read_from bank line)
  to_wait bank line none room =
      sym (ap (λ b. cond b (came.Forwarded (layer_of bank.kept.entries line).bytes) (cond (length bank.waiting == bank.kept.shape.reads) came.Busy came.Waiting)) none
      ∙ ap (λ b. cond b came.Busy came.Waiting) (ne_eqb (length bank.waiting) bank.kept.shape.reads (λ e. omega (arith, e, room))))

  pub to_refuse : (bank : BankState n m e) (line : ℕ) → gives_all ((layer_of bank.kept.entries line).given) ≡ false → length bank.waiting ≤ bank.kept.shape.reads
      → (capacity : ℕ) → capacity ≡ bank.kept.shape.reads → (length bank.waiting < capacity → false ≡ true) → ◌≡◌ {A = ReadAnswer n} came.Busy (read_from bank line)
  to_refuse bank line none few capacity room full =
      let all : length bank.waiting ≡ bank.kept.shape.reads = elim (ltb (length bank.waiting) capacity) as (λ b. ltb (length bank.waiting) capacity ≡ b → length bank.waiting ≡ bank.kept.shape.reads) [
        | true ↦ λ is. let no : false ≡ true = full (ltb-true (length bank.waiting) capacity is) in cc
        | false ↦ λ is. omega (arith, ltb-false (length bank.waiting) capacity is, few, room)
      ] refl in
      sym (ap (λ b. cond b (came.Forwarded (layer_of bank.kept.entries line).bytes) (cond (length bank.waiting == bank.kept.shape.reads) came.Busy came.Waiting)) none
      ∙ ap (λ b. cond b came.Busy came.Waiting) (eq-eqb (length bank.waiting) bank.kept.shape.reads all))

  pub lost_law : (h : List (BankEvent n)) (bank : BankState n m e) (array : ArrayState n m) → Holds h bank array → Holds h (lost_taken bank) array
  lost_law h bank array holds = same_said h h bank array (drop 1 bank.lost) bank.rows_below holds refl holds.past holds.rows

  pub serve_tied : (bank : BankState n m e) (old new : ArrayState n m) → StandsAs old new
      → IsTied bank old → IsTied (served bank) new
  serve_tied bank old new stands tied =
      tied_waiting e bank.kept new bank.running bank.waiting (drop 1 bank.waiting)
      (λ line bytes whole off. All-drop (λ w. w.line ≢ line) 1 bank.waiting off)
      (tied_sensed e old new stands bank.kept bank.running bank.waiting tied)

  -- what was read where the line stands, with the kept bytes over it, is the answer
  pub answers : (bank : BankState n m e) (array : ArrayState n m) (w : Waiting n) (place : ℕ) (bytes : List ℕ)
      → place ≡ stands_at bank.kept w.line → bytes ≡ laid w.kept w.given (decode e (array.line place).held)
      → ◌≡◌ {A = Served n} (record { row = w.row; place = place; bytes = bytes }) (served_from bank array w)
  answers bank array w place bytes at is =
      let there : bytes ≡ laid w.kept w.given (decode e (array.line (stands_at bank.kept w.line)).held) =
      is ∙ ap (λ (p : ℕ). laid w.kept w.given (decode e (array.line p).held)) at in
      cc

  pub serve_law : (h : List (BankEvent n)) (bank : BankState n m e) (old new : ArrayState n m) (w : Waiting n) (ws : List (Waiting n)) (answer : Served n)
      → bank.waiting ≡ w ∷ ws → answer ≡ served_from bank old w → StandsAs old new
      → Holds h bank old → Holds (Serve answer ∷ h) (served bank) new
  serve_law h bank old new w ws answer first is stands holds =
      served_law n m e h bank old new answer holds
      (subst (λ (a : Served n). MayHappen bank.kept.shape h (most_steps e) (Serve a)) (sym is) (may_serve_law n m e h bank old w ws holds first))
      stands

module _ {n : ℕ} (m e : ℕ) where
  pub IsBank-push : (kept : KeptState n) (waiting : List (Waiting n)) (w : Waiting n) (capacity lost : ℕ) → length waiting < capacity → w.line < bank_lines kept.shape
      → IsBank m e kept waiting capacity lost → IsBank m e kept (waiting ++ w ∷ []) capacity lost
  IsBank-push kept waiting w capacity lost room below is = record {
    few_bytes = is.few_bytes;
    layout = is.layout;
    in_range = is.in_range;
    room = is.room;
    lost_room = is.lost_room;
    few_waiting = omega (arith, length-append waiting (w ∷ []), room, is.room);
    known = All-push (λ w. w.line < bank_lines kept.shape) waiting w is.known below;
  }

  pub IsBank-completed : (kept new : KeptState n) (under : List ℕ) (waiting : List (Waiting n)) (capacity lost : ℕ) → new ≡ completed_kept under kept → IsKept new
      → IsBank m e kept waiting capacity lost → IsBank m e new waiting capacity lost
  IsBank-completed kept new under waiting capacity lost same range is =
      let reads : new.shape.reads ≡ kept.shape.reads = ap (λ (k : KeptState n). k.shape.reads) same in
      record {
        few_bytes = is.few_bytes;
        layout = is.layout;
        in_range = range;
        room = is.room ∙ sym reads;
        lost_room = is.lost_room ∙ sym reads;
        few_waiting = omega (arith, is.few_waiting, reads);
        known = subst (λ (k : KeptState n). All (λ w. w.line < bank_lines k.shape) waiting) (sym same) is.known;
      }

  pub IsBank-drop : (kept : KeptState n) (waiting : List (Waiting n)) (capacity lost : ℕ) → IsBank m e kept waiting capacity lost → IsBank m e kept (drop 1 waiting) capacity lost
  IsBank-drop kept waiting capacity lost is = record {
    few_bytes = is.few_bytes;
    layout = is.layout;
    in_range = is.in_range;
    room = is.room;
    lost_room = is.lost_room;
    few_waiting = omega (arith, fewer waiting, is.few_waiting);
    known = All-drop (λ w. w.line < bank_lines kept.shape) 1 waiting is.known;
  }
    where
      fewer : (ws : List (Waiting n)) → length (drop 1 ws) ≤ length ws
      fewer [] = omega arith
      fewer (w ∷ ws) = omega arith
