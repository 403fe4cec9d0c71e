-- Reads that begin to wait and are served, and arrays that were only sensed.
use Rattle.std.proofs.Common.{◌≡◌, ◌≢◌, ℕ, ◌+◌, ◌*◌, ◌<◌, ◌≤◌, ◌==◌, cond, refl, sym, ap, subst, ◌∙◌, arith, Bool, true, false, List, [], ◌∷◌, ◌++◌, map, length, drop, get_or, slice_get, length-append, eq-eqb, Option, Some, None, IfSome, IsTrue}
use Rattle.std.{specs.Prelude.{IsSomeAnd, All}, proofs.lemmas.Bool.eqb-false, proofs.lemmas.List.{map_push, length-map, drop-map}, proofs.lemmas.List.Elements.{All-push, All-drop}}
use Rattle.masked_bytes.specs.{Entries.{Layer, layer_of, AllMasked}, Masked.{laid, gives_all}, declared.entry.Entry.Entry}
use Rattle.masked_bytes.proofs.{Layering.{length-laid, laid-all_given, joined-all_given, gives_all-all_given, all_given-gives_all}, Queueing.IsLayer-layer_of}
use Rattle.cell_rows.specs.{Device.{ArrayState, LineState, Senses}, declared.array.Sense.Sense}
use Rattle.ecp_line.specs.{ArrayLines.decoded, Reading.{decode, IsSoundLine, IsWornLine}}
use Rattle.line_writer.{specs.Orderly.IsLive, proofs.Orderly.AreOrderly-same, proofs.Untouched.AreUntouched-same}
use Rattle.bank_shape.specs.{Shape.slot_at, declared.BankShape.BankShape, declared.Work.Work, declared.Work.TheVariants.{Store, Copy}, declared.answer.ReadAnswer.ReadAnswer}
use Rattle.bank_shape.specs.declared.waiting.Waiting.{Waiting}
use Rattle.bank_shape.specs.declared.answer.ReadAnswer.TheVariants as came
use Rattle.power_recovery.specs.Kept.{KeptState, array_line, stands_at}
use Rattle.bank_model.specs.{Answers.{MayAll, IsServed}, Events.{BankEvent, Read, Serve, Cut, newest}, History.{Awaited, awaited, queue, waits, iterated}, Touching.Touches}
use Rattle.bank_model.proofs.{Newest.length-newest, Rising.RowsBelow-more}
use Rattle.bank_invariant.specs.{Holds.{Holds, waiting_of}, Serving.{kept_with, served_from, WaitingLaw, SensedLaw, MayReadLaw, MayServeLaw, ServedLaw}}
use Rattle.bank_invariant.{specs.State.{BankState, Operation}, specs.Tied.{StandsAs, IsUnderWay, IsOf, IsRunning, AreSound, AreTied}, proofs.Agreeing.agree_law}

-- Arrays that stand as before

module _ {n m : ℕ} where
  -- as a sense leaves them
  pub StandsAs-sensed : (sensed : Sense n m) (old new : ArrayState n m) → Senses sensed old new → StandsAs old new
  StandsAs-sensed sensed old new sense = record { lines = sense.lines; line = sense.line; bounds = sense.bounds }

  -- and an event that pulses no line
  pub StandsAs-touched : (tick : ℕ) (sensed : List ℕ) (old new : ArrayState n m) → Touches tick sensed None false old new → StandsAs old new
  StandsAs-touched tick sensed old new touches = record { lines = touches.lines; line = λ at. touches.others at refl; bounds = touches.bounds }

module _ {n m : ℕ} (e : ℕ) (old new : ArrayState n m) (stands : StandsAs old new) where
  same_decoded : (line : ℕ) → decoded e new line ≡ decoded e old line
  same_decoded line = ap (λ (l : LineState n m). decode e l.held) (stands.line line)

  of_sensed : (kept : KeptState n) (waiting : List (Waiting n)) (bytes : List ℕ) (work : Work) → IsOf e kept old waiting bytes work → IsOf e kept new waiting bytes work
  of_sensed kept waiting bytes (Copy region step) own = own ∙ sym (same_decoded (array_line kept (slot_at kept.shape region step.from)))
  of_sensed kept waiting bytes _ own = own

  running_sensed : (kept : KeptState n) (waiting : List (Waiting n)) (running : Option (Operation n m e))
      → IfSome running (IsRunning kept old waiting) → IfSome running (IsRunning kept new waiting)
  running_sensed kept waiting None own = tt
  running_sensed kept waiting (Some op) own = record {
    next = own.next;
    target = own.target;
    of = of_sensed kept waiting op.writer.bytes op.work own.of;
    writing = subst (λ (l : LineState n m). IsUnderWay op.writer l) (sym (stands.line op.target)) own.writing;
  }

  rounds_sensed : (count : ℕ) (running : Option (Operation n m e)) → IfSome running (λ op. IsLive (old.line op.target) → count ≤ op.writer.prog.rounds)
      → IfSome running (λ op. IsLive (new.line op.target) → count ≤ op.writer.prog.rounds)
  rounds_sensed count None own = tt
  rounds_sensed count (Some op) own = λ live. own (subst (λ (l : LineState n m). IsLive l) (stands.line op.target) live)

  sound_sensed : (kept : KeptState n) → AreSound e kept old → AreSound e kept new
  sound_sensed kept own = record {
    apart = own.apart;
    slots = λ slot below. subst (λ (l : LineState n m). IsSoundLine e l) (sym (stands.line (array_line kept slot))) (own.slots slot below);
    spares = λ spare free below.
        let was = own.spares spare free below in
        subst (λ (l : LineState n m). IsSoundLine e l × (l.pulses ≡ 0)) (sym (stands.line _)) was;
    worn = λ line below none. subst (λ (l : LineState n m). IsWornLine e l) (sym (stands.line _)) (own.worn line below none);
  }

  pub tied_sensed : (kept : KeptState n) (running : Option (Operation n m e)) (waiting : List (Waiting n))
      → AreTied kept running waiting old → AreTied kept running waiting new
  tied_sensed kept running waiting tied = record {
    lines = omega (arith, tied.lines, stands.lines);
    sound = sound_sensed kept tied.sound;
    unused = AreUntouched-same e old new _ _ (λ line below. stands.line (kept.shape.base + line)) tied.unused;
    orderly = AreOrderly-same old new _ _ stands.bounds (λ line below. stands.line (kept.shape.base + line)) tied.orderly;
    operation = running_sensed kept waiting running tied.operation;
    exhausted = λ mark.
        let own = tied.exhausted mark in
        record { all_used = own.all_used; idle = own.idle; worn = subst (λ (l : LineState n m). IsWornLine e l) (sym (stands.line _)) own.worn };
  }

pub sensed_law : SensedLaw
sensed_law n m e h bank old new holds stands = record {
  past = holds.past;
  newest = λ line below.
      let layer : Layer = layer_of bank.kept.entries line in
      ap (λ under. laid layer.bytes layer.given under) (same_decoded e old new stands (stands_at bank.kept line)) ∙ holds.newest line below;
  waiting = holds.waiting;
  few_waiting = holds.few_waiting;
  served = λ k d few.
      let w : Awaited = get_or (waits bank.kept.shape h) k d in
      ap (λ under. laid w.kept w.given under) (same_decoded e old new stands (stands_at bank.kept w.line)) ∙ holds.served k d few;
  running = holds.running;
  steps = holds.steps;
  rounds = rounds_sensed e old new stands (iterated h) bank.running holds.rounds;
  tied = tied_sensed e old new stands bank.kept bank.running bank.waiting holds.tied;
  regions = holds.regions;
  due_last = holds.due_last;
  entries = holds.entries;
  table = holds.table;
  exhausted = holds.exhausted;
  rows = holds.rows;
  kept = holds.kept;
}

-- Other waiting reads

-- the head is of this line and has these bytes, and gives every byte
abbrev pub IsWholeHead : {n : ℕ} → KeptState n → ℕ → List ℕ → Type 0
IsWholeHead kept line bytes = IsSomeAnd (slice_get kept.entries 0) (λ head. (head.line ≡ line) × (head.bytes ≡ bytes) × IsTrue (gives_all head.given))

-- none of these reads is of this line
abbrev pub AreOff : {n : ℕ} → List (Waiting n) → ℕ → Type 0
AreOff ws line = All (λ w. w.line ≢ line) ws

module _ {n m : ℕ} (e : ℕ) (kept : KeptState n) (array : ArrayState n m) where
  of_waiting : (ws xs : List (Waiting n)) (bytes : List ℕ) (work : Work) → ((line : ℕ) → IsWholeHead kept line bytes → AreOff ws line → AreOff xs line)
      → IsOf e kept array ws bytes work → IsOf e kept array xs bytes work
  of_waiting ws xs bytes (Store line slot) off own = (own.0, off line own.0 own.1)
  of_waiting ws xs bytes _ off own = own

  running_waiting : (running : Option (Operation n m e)) (ws xs : List (Waiting n)) → ((line : ℕ) (bytes : List ℕ) → IsWholeHead kept line bytes → AreOff ws line → AreOff xs line)
      → IfSome running (IsRunning kept array ws) → IfSome running (IsRunning kept array xs)
  running_waiting None ws xs off own = tt
  running_waiting (Some op) ws xs off own = record {
    next = own.next;
    target = own.target;
    of = of_waiting ws xs op.writer.bytes op.work (λ line. off line op.writer.bytes) own.of;
    writing = own.writing;
  }

  -- a bank stays tied to its array while none of the reads that wait is of the line that is stored
  pub tied_waiting : (running : Option (Operation n m e)) (ws xs : List (Waiting n)) → ((line : ℕ) (bytes : List ℕ) → IsWholeHead kept line bytes → AreOff ws line → AreOff xs line)
      → AreTied kept running ws array → AreTied kept running xs array
  tied_waiting running ws xs off tied = record {
    lines = tied.lines;
    sound = tied.sound;
    unused = tied.unused;
    orderly = tied.orderly;
    operation = running_waiting running ws xs off tied.operation;
    exhausted = tied.exhausted;
  }

-- A read begins to wait

-- where the head is of a line and gives every byte, the queue gives every byte of the line
pub gives_all-head : {n : ℕ} (es : List (Entry n)) (line : ℕ) (bytes : List ℕ) → AllMasked es
    → IsSomeAnd (slice_get es 0) (λ head. (head.line ≡ line) × (head.bytes ≡ bytes) × IsTrue (gives_all head.given))
    → gives_all (layer_of es line).given ≡ true
gives_all-head [] line bytes masked whole = absurd whole
gives_all-head {n = n} (entry ∷ es) line bytes masked whole =
    let top : Layer = layer_of es line in
    let all = all_given-gives_all n entry.given masked.0.given_len whole.2 in
    let sized = IsLayer-layer_of es line masked.1 in
    rw (eq-eqb entry.line line whole.0)
    (rw all (rw (joined-all_given n top.given sized.given_len) (gives_all-all_given n)))

-- What a read is answered

-- where the queue gives every byte of a line, they are the newest
pub layer-newest : {n m e : ℕ} (h : List (BankEvent n)) (bank : BankState n m e) (array : ArrayState n m) (line : ℕ) → Holds h bank array
    → line < bank.kept.shape.regions * bank.kept.shape.lines → gives_all ((layer_of bank.kept.entries line).given) ≡ true
    → (layer_of bank.kept.entries line).bytes ≡ newest h line
layer-newest {n = n} {e = e} h bank array line holds below all =
    let layer : Layer = layer_of bank.kept.entries line in
    let under : List ℕ = decoded e array (stands_at bank.kept line) in
    let sized = IsLayer-layer_of bank.kept.entries line holds.kept.masked in
    let long : length under ≡ n =
    sym (length-laid layer.bytes layer.given under) ∙ ap length (holds.newest line below) ∙ length-newest h line in
    sym (laid-all_given n layer.bytes under sized.bytes_len long)
    ∙ ap (λ given. laid layer.bytes given under) (sym (all_given-gives_all n layer.given sized.given_len all))
    ∙ holds.newest line below

pub may_read_law : MayReadLaw
may_read_law n m e row line h bank array holds below =
    let layer : Layer = layer_of bank.kept.entries line in
    let as_many : length bank.waiting ≡ length (waits bank.kept.shape h) = ap length holds.waiting ∙ length-map (waits bank.kept.shape h) waiting_of in (
      below,
      forwards (gives_all layer.given) (length bank.waiting == bank.kept.shape.reads) layer.bytes (newest h line) (layer-newest h bank array line holds below)
          ∙ ap (λ count. cond (gives_all layer.given) (came.Forwarded (newest h line)) (cond (count == bank.kept.shape.reads) came.Busy came.Waiting)) as_many
          ∙ ap (λ es. cond (gives_all ((layer_of es line).given)) (came.Forwarded (newest h line)) (cond (length (waits bank.kept.shape h) == bank.kept.shape.reads) came.Busy came.Waiting))
          holds.entries,
    )
  where
    forwards : (all full : Bool) (bytes newest : List ℕ) → (all ≡ true → bytes ≡ newest)
        → ◌≡◌ {A = ReadAnswer n} (cond all (came.Forwarded bytes) (cond full came.Busy came.Waiting)) (cond all (came.Forwarded newest) (cond full came.Busy came.Waiting))
    forwards true full bytes newest same = ap (λ bytes. came.Forwarded bytes) (same refl)
    forwards false full bytes newest same = refl

-- a read waits only where the queue doesn't give every byte and not as many wait as may
waits_where : {n : ℕ} (all full : Bool) (bytes : List ℕ) → ◌≡◌ {A = ReadAnswer n} came.Waiting (cond all (came.Forwarded bytes) (cond full came.Busy came.Waiting))
    → (all ≡ false) × (full ≡ false)
waits_where all full bytes e = grind arith

pub waiting_law : WaitingLaw
waiting_law n m e row line h bank array holds above may =
    let es : List (Entry n) = queue bank.kept.shape h in
    let told = waits_where (gives_all ((layer_of es line).given)) (length (waits bank.kept.shape h) == bank.kept.shape.reads) (newest h line) may.1 in
    let not_all : gives_all ((layer_of bank.kept.entries line).given) ≡ false = ap (λ es. gives_all ((layer_of es line).given)) holds.entries ∙ told.0 in
    let as_many : length bank.waiting ≡ length (waits bank.kept.shape h) = ap length holds.waiting ∙ length-map (waits bank.kept.shape h) waiting_of in
    let w : Waiting n = kept_with row line (layer_of bank.kept.entries line) in
    let owed : Awaited = awaited row line (newest h line) (layer_of es line) in
    record {
      past = (may, holds.past);
      newest = holds.newest;
      waiting =
          ap (λ ws. ws ++ w ∷ []) holds.waiting
          ∙ ap (λ es. map waiting_of (waits bank.kept.shape h) ++ kept_with row line (layer_of es line) ∷ []) holds.entries
          ∙ sym (map_push waiting_of (waits bank.kept.shape h) owed);
      few_waiting =
          let off : length (waits bank.kept.shape h) ≢ bank.kept.shape.reads = eqb-false (length (waits bank.kept.shape h)) bank.kept.shape.reads told.1 in
          omega (arith, length-append bank.waiting (w ∷ []), holds.few_waiting, as_many, off);
      served =
          All-push (λ w. laid w.kept w.given (decoded e array (stands_at bank.kept w.line)) ≡ w.newest) (waits bank.kept.shape h) owed holds.served
          (ap (λ es. laid (layer_of es line).bytes (layer_of es line).given (decoded e array (stands_at bank.kept line))) (sym holds.entries) ∙ holds.newest line may.0);
      running = holds.running;
      steps = holds.steps;
      rounds = holds.rounds;
      tied = tied_waiting e bank.kept array bank.running bank.waiting (bank.waiting ++ w ∷ [])
          (λ at bytes whole off. All-push (λ w. w.line ≢ at) bank.waiting w off
          (λ is.
          let given : gives_all ((layer_of bank.kept.entries at).given) ≡ true = gives_all-head bank.kept.entries at bytes holds.kept.masked whole in
          let there : gives_all ((layer_of bank.kept.entries line).given) ≡ true = ap (λ at. gives_all ((layer_of bank.kept.entries at).given)) is ∙ given in
          cc))
          holds.tied;
      regions = holds.regions;
      due_last = holds.due_last;
      entries = holds.entries;
      table = holds.table;
      exhausted = holds.exhausted;
      rows = (omega arith, RowsBelow-more h bank.rows_below row above holds.rows);
      kept = holds.kept;
    }

-- A read is served

-- each read that waits is of a line of the bank
pub waits-known : {n : ℕ} (shape : BankShape) (most : ℕ) (h : List (BankEvent n)) → MayAll shape most h → All (λ w. w.line < shape.regions * shape.lines) (waits shape h)
waits-known shape most [] may = λ k d few. let none : ⊥ = omega (arith, few) in absurd none
waits-known shape most (Read row line came.Waiting ∷ h) may =
    All-push (λ w. w.line < shape.regions * shape.lines) (waits shape h) (awaited row line (newest h line) (layer_of (queue shape h) line))
    (waits-known shape most h may.1) may.0.0
waits-known shape most (Serve answer ∷ h) may = All-drop (λ w. w.line < shape.regions * shape.lines) 1 (waits shape h) (waits-known shape most h may.1)
waits-known shape most (Cut tearing ∷ h) may = λ k d few. let none : ⊥ = omega (arith, few) in absurd none
waits-known shape most (_ ∷ h) may = waits-known shape most h may.1

pub may_serve_law : MayServeLaw
may_serve_law n m e h bank array w ws holds first =
    by (waits bank.kept.shape h) (sym first ∙ holds.waiting) holds.served (waits-known bank.kept.shape _ h holds.past)
  where
    by : (vs : List Awaited) → w ∷ ws ≡ map waiting_of vs → All (λ v. laid v.kept v.given (decoded e array (stands_at bank.kept v.line)) ≡ v.newest) vs
        → All (λ v. v.line < bank.kept.shape.regions * bank.kept.shape.lines) vs → IsServed bank.kept.shape h vs (served_from bank array w)
    by [] is owed known = cc
    by (v ∷ vs) is owed known =
        let same : w ≡ waiting_of v = cc in
        let P : Waiting n → Type 0 = λ w. IsServed bank.kept.shape h (v ∷ vs) (served_from bank array w) in
        subst P (sym same) (refl, (agree_law n m e h bank array holds).stands v.line (known 0 v (omega arith)), owed 0 v (omega arith))

pub served_law : ServedLaw
served_law n m e h bank old new answer holds may stands =
    let now = sensed_law n m e h bank old new holds stands in
    record {
      past = (may, now.past);
      newest = now.newest;
      waiting = ap (λ ws. drop 1 ws) now.waiting ∙ drop-map waiting_of 1 (waits bank.kept.shape h);
      few_waiting = omega (arith, fewer bank.waiting, now.few_waiting);
      served = All-drop (λ w. laid w.kept w.given (decoded e new (stands_at bank.kept w.line)) ≡ w.newest) 1 (waits bank.kept.shape h) now.served;
      running = now.running;
      steps = now.steps;
      rounds = now.rounds;
      tied = tied_waiting e bank.kept new bank.running bank.waiting (drop 1 bank.waiting)
          (λ line bytes whole off. All-drop (λ w. w.line ≢ line) 1 bank.waiting off) now.tied;
      regions = now.regions;
      due_last = now.due_last;
      entries = now.entries;
      table = now.table;
      exhausted = now.exhausted;
      rows = now.rows;
      kept = now.kept;
    }
  where
    fewer : (ws : List (Waiting n)) → length (drop 1 ws) ≤ length ws
    fewer ws = grind arith
