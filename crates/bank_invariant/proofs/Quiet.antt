-- Events that leave queue, registers and array as they are.
use Rattle.std.proofs.Common.{◌≡◌, ℕ, ◌+◌, ◌/◌, ◌≤◌, Bool, List, [], ◌∷◌, map, is_some, refl, subst, arith}
use Rattle.std.specs.Prelude.{All, IfSome}
use Rattle.bank_model.specs.{Answers.MayAll, Events.{BankEvent, Read, newest, RowsBelow}}
use Rattle.bank_model.{specs.History.{Awaited, queue, waits, in_progress, iterated, stores, stored_in, moved_in, retired, has_exhausted, first_or}, proofs.Rising.RowsBelow-more}
use Rattle.masked_bytes.specs.{Masked.laid, declared.entry.Entry.Entry}
use Rattle.cell_rows.specs.Device.{ArrayState}
use Rattle.bank_shape.specs.{Shape.slots_of, declared.BankShape.BankShape}
use Rattle.bank_shape.specs.declared.answer.ReadAnswer.TheVariants as came
use Rattle.line_writer.specs.{Orderly.IsLive, Writing.{steps_left, most_steps}}
use Rattle.power_recovery.specs.Kept.{region_at, stands_at}
use Rattle.bank_invariant.specs.{Holds.{Holds, IsRegionAfter, stands_for, waiting_of}, State.BankState, Steps.{ForwardedLaw, BusyLaw, CutLaw}}
use Rattle.ecp_line.specs.ArrayLines.{decoded}

-- what the invariant takes from a history, besides that its events may happen and its rows
pub record Said (n : ℕ) : Type 0 where
  pub newest : ℕ → List ℕ
  pub waits : List Awaited
  pub in_progress : Bool
  pub iterated : ℕ
  pub stores : List ℕ
  pub stored_in : ℕ → ℕ
  pub moved_in : ℕ → ℕ
  pub queue : List (Entry n)
  pub retired : List ℕ
  pub exhausted : Bool

abbrev pub said_by : {n : ℕ} → BankShape → List (BankEvent n) → Said n
said_by shape h = record {
  newest = λ line. newest h line;
  waits = waits shape h;
  in_progress = in_progress h;
  iterated = iterated h;
  stores = stores h;
  stored_in = λ region. stored_in shape.lines h region;
  moved_in = λ region. moved_in shape.lines h region;
  queue = queue shape h;
  retired = retired h;
  exhausted = has_exhausted h;
}

-- a history that says the same leads to the same bank, with any lost rows and with any bound above its own
pub same_said : {n m e : ℕ} (h later : List (BankEvent n)) (bank : BankState n m e) (array : ArrayState n m) (lost : List ℕ) (rows : ℕ)
    → Holds h bank array → said_by bank.kept.shape h ≡ said_by bank.kept.shape later
    → MayAll bank.kept.shape (most_steps e) later → RowsBelow later rows
    → Holds later (record bank { lost = lost; rows_below = rows }) array
same_said {n} {m} {e} h later bank array lost rows holds same past below = record {
  past = past;
  newest = λ line within. subst (λ (s : Said n). stands_for e bank.kept array line ≡ s.newest line) same (holds.newest line within);
  waiting = subst (λ (s : Said n). bank.waiting ≡ map waiting_of s.waits) same holds.waiting;
  few_waiting = holds.few_waiting;
  served = subst (λ (s : Said n). All (λ w. laid w.kept w.given (decoded e array (stands_at bank.kept w.line)) ≡ w.newest) s.waits) same holds.served;
  running = subst (λ (s : Said n). is_some bank.running ≡ s.in_progress) same holds.running;
  steps = subst (λ (s : Said n). IfSome bank.running (λ op. s.iterated + steps_left op.writer ≤ most_steps e)) same holds.steps;
  rounds = subst (λ (s : Said n). IfSome bank.running (λ op. IsLive (array.line op.target) → s.iterated ≤ op.writer.prog.rounds)) same holds.rounds;
  tied = holds.tied;
  regions = λ region within.
      subst (λ (s : Said n). IsRegionAfter (s.moved_in region) (s.stored_in region) bank.kept.shape.psi (region_at bank.kept region)) same (holds.regions region within);
  due_last = λ region within full. subst (λ (s : Said n). first_or 0 s.stores / bank.kept.shape.lines ≡ region) same (holds.due_last region within full);
  entries = subst (λ (s : Said n). bank.kept.entries ≡ s.queue) same holds.entries;
  table =
      subst (λ (s : Said n). bank.kept.table ≡ record { slots = slots_of bank.kept.shape; spares = bank.kept.shape.spares; replaced = s.retired }) same holds.table;
  exhausted = subst (λ (s : Said n). bank.kept.exhausted ≡ s.exhausted) same holds.exhausted;
  rows = below;
  kept = holds.kept;
}

pub forwarded_law : ForwardedLaw
forwarded_law n m e row line bytes h bank array holds above may =
    same_said h (Read row line (came.Forwarded bytes) ∷ h) bank array bank.lost (row + 1) holds refl (may, holds.past)
    (omega arith, RowsBelow-more h bank.rows_below row above holds.rows)

pub busy_law : BusyLaw
busy_law n m e row line h bank array holds above may =
    same_said h (Read row line came.Busy ∷ h) bank array bank.lost (row + 1) holds refl (may, holds.past)
    (omega arith, RowsBelow-more h bank.rows_below row above holds.rows)

pub cut_law : CutLaw
cut_law n m e h bank array holds = record {
  past = (refl, holds.past);
  newest = holds.newest;
  waiting = refl;
  few_waiting = omega arith;
  served = λ k d few. let none : ⊥ = omega (arith, few) in absurd none;
  running = refl;
  steps = tt;
  rounds = tt;
  tied = record {
    lines = holds.tied.lines;
    sound = holds.tied.sound;
    unused = holds.tied.unused;
    orderly = holds.tied.orderly;
    operation = tt;
    exhausted = λ mark. record {
      all_used = (holds.tied.exhausted mark).all_used;
      idle = refl;
      worn = (holds.tied.exhausted mark).worn;
    };
  };
  regions = holds.regions;
  due_last = holds.due_last;
  entries = holds.entries;
  table = holds.table;
  exhausted = holds.exhausted;
  rows = holds.rows;
  kept = holds.kept;
}
