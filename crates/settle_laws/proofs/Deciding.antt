-- What is decided as a row comes was decided by then.
use Rattle.std.proofs.Common.{◌≡◌, ◌≢◌, ℕ, Bool, true, false, List, [], ◌∷◌, ◌++◌, get_or, inl, inr, ◌⊎◌, refl, sym, ap, subst, ◌∙◌, append_assoc}
use Rattle.std.{specs.Prelude.All, proofs.lemmas.List.Elements.{All-nil, All-cons}}
use Rattle.masked_bytes.specs.Entries.{layer_of}
use Rattle.result_rows.specs.declared.Outcome.{Outcome}
use Rattle.result_rows.specs.declared.Outcome.TheVariants as out
use Rattle.row_rules.specs.{declared.Asks.Asks, declared.Asks.TheVariants.{Reads, Writes, Cuts}}
use Rattle.bank_shape.specs.{declared.BankShape.BankShape, declared.answer.ReadAnswer.ReadAnswer, declared.answer.WriteAnswer.WriteAnswer, declared.pace.Pace.Pace}
use Rattle.bank_shape.specs.declared.answer.WriteAnswer.TheVariants as wrote
use Rattle.bank_shape.specs.declared.answer.ReadAnswer.TheVariants as came
use Rattle.bank_model.specs.{Events.{Write, Read, Cut, newest}, History.{awaited, queue, waits}, Lawful.{Lawful, MayCome}, Timing.{Happens, Core, TimedEvent, core}}
use Rattle.bank_laws.{specs.Outcomes.{ended, on_row, outcome_of, outcome_with}, proofs.Answering.merged-there, proofs.Ending.{Onwards, own_answer}}
use Rattle.bank_laws.proofs.{Fates.{IsLeft, IsSettled, ReadFate, WriteFate, awaits-has, awaits-new, new-push, new-merged}, Serves.{may_at, onwards_at}}
use Rattle.bank_laws.proofs.Settling.{lawful_before, opens}
use Rattle.module_laws.specs.Asking.{Asked, AreAsked, IsAsked}
use Rattle.pcm_module.specs.Replaying.{outcome_so_far}
use Rattle.settle_laws.{specs.Turns.is_decided, proofs.Banks.known_of}

module _ {n : ℕ} where
  left-undecided : (o : Outcome n) → IsLeft o → is_decided o ≡ false
  left-undecided (out.Stored tick place) left = refl
  left-undecided (out.Merged tick) left = refl
  left-undecided _ left = absurd left

  settled-undecided : (owed : List ℕ) (o : Outcome n) → IsSettled owed o → is_decided o ≡ false
  settled-undecided owed (out.Read tick place bytes) settled = refl
  settled-undecided owed (out.Lost tick) settled = refl
  settled-undecided owed _ settled = absurd settled

  -- that a write without an outcome counts as queued decides nothing
  ended-decided : (tick : ℕ) (o : Outcome n) → is_decided (ended tick o) ≡ true → (is_decided o ≡ true) × (ended tick o ≡ o)
  ended-decided tick out.Unset is = absurd (cc is)
  ended-decided tick (out.Full at) is = (refl, refl)
  ended-decided tick (out.Worn at) is = (refl, refl)
  ended-decided tick (out.Forwarded at bytes) is = (refl, refl)
  ended-decided tick (out.Busy at) is = (refl, refl)
  ended-decided tick (out.Cut at) is = (refl, refl)
  ended-decided tick (out.Stored at place) is = absurd (cc is)
  ended-decided tick (out.Merged at) is = absurd (cc is)
  ended-decided tick (out.Queued at) is = absurd (cc is)
  ended-decided tick (out.Read at place bytes) is = absurd (cc is)
  ended-decided tick (out.Lost at) is = absurd (cc is)

module _ {n m : ℕ} (shape : BankShape) (pace : Pace) (e : ℕ) (since xs : List (TimedEvent n m)) (l : Lawful shape pace e (since ++ xs)) where
  abbrev all : List (TimedEvent n m)
  all = since ++ xs

  before : Lawful shape pace e xs
  before = lawful_before shape pace e since xs l

  -- the outcome of a row was known by then, or is none that is decided as a row comes
  abbrev IsDecided : ℕ → Type 0
  IsDecided row = (outcome_of shape xs row ≡ outcome_of shape all row) ⊎ (is_decided (outcome_of shape all row) ≡ false)

  abbrev IsDecidedFor : Asked n → Asks n → Type 0
  IsDecidedFor a (Reads line) = IsDecided a.row
  IsDecidedFor a (Writes line bytes given) = IsDecided a.row
  IsDecidedFor a Cuts = Unit {0}

  abbrev Is : Asked n → Type 0
  Is a = IsDecidedFor a a.asks

  write-fate : (row : ℕ) → WriteFate shape all row → IsDecided row
  write-fate row (inl there) = inr (ap is_decided ((opens shape pace e all l).queued row there))
  write-fate row (inr left) = inr (left-undecided (outcome_of shape all row) left)

  read-fate : (row : ℕ) (owed : List ℕ) → ReadFate shape all row owed → IsDecided row
  read-fate row owed (inl awaits) = inr (ap is_decided ((opens shape pace e all l).waiting row (awaits-has (waits shape (core all)) row owed awaits)))
  read-fate row owed (inr settled) = inr (settled-undecided owed (outcome_of shape all row) settled)

  -- of an event and those before it
  module _ (ys : List (TimedEvent n m)) (x : TimedEvent n m) where
    answered : (h : Happens n) (row : ℕ) (o : Outcome n) → Onwards shape all ys x.tick h → Onwards shape xs ys x.tick h
        → outcome_with shape ys h x.tick row ≡ on_row row row o → o ≢ out.Unset → IsDecided row
    answered h row o now then is set = inl (own_answer shape pace e xs ys x h row o then is set ∙ sym (own_answer shape pace e all ys x h row o now is set))

    written : (row line : ℕ) (bytes : List ℕ) (given : List Bool) (answer : WriteAnswer) → MayCome shape pace e ys x (Core (Write row line bytes given answer))
        → Onwards shape all ys x.tick (Core (Write row line bytes given answer)) → Onwards shape xs ys x.tick (Core (Write row line bytes given answer)) → IsDecided row
    written row line bytes given wrote.Accepted may now then =
        write-fate row (now.writes row (inl (new-push (queue shape (core ys)) (record { row = row; line = line; bytes = bytes; given = given }))))
    written row line bytes given (wrote.Merged old) may now then =
        write-fate row (now.writes row (inl (new-merged old row bytes given (queue shape (core ys)) (merged-there shape (core ys) line old may.may.2))))
    written row line bytes given wrote.Full may now then = answered (Core (Write row line bytes given wrote.Full)) row (out.Full x.tick) now then refl (λ is. absurd (cc))
    written row line bytes given wrote.Exhausted may now then = answered (Core (Write row line bytes given wrote.Exhausted)) row (out.Worn x.tick) now then refl (λ is. absurd (cc))

    came-in : (row line : ℕ) (answer : ReadAnswer n) → Onwards shape all ys x.tick (Core (Read row line answer)) → Onwards shape xs ys x.tick (Core (Read row line answer)) → IsDecided row
    came-in row line (came.Forwarded bytes) now then = answered (Core (Read row line (came.Forwarded bytes))) row (out.Forwarded x.tick bytes) now then refl (λ is. absurd (cc))
    came-in row line came.Busy now then = answered (Core (Read row line came.Busy)) row (out.Busy x.tick) now then refl (λ is. absurd (cc))
    came-in row line came.Waiting now then =
        read-fate row (newest (core ys) line)
        (now.reads row (newest (core ys) line) (inl (awaits-new (waits shape (core ys)) (awaited row line (newest (core ys) line) (layer_of (queue shape (core ys)) line)))))

  decided-so : (later ys : List (TimedEvent n m)) (asked : List (Asked n)) → xs ≡ later ++ ys → AreAsked ys asked → All Is asked
  decided-so later [] asked same none = subst (λ (rest : List (Asked n)). All Is rest) (sym none) (All-nil Is)
  decided-so later (x ∷ ys) asked same is =
      by x.happens x.cancels asked (may_at shape pace e xs later x ys before same) (onwards_at shape pace e all (since ++ later) x ys l whole) (onwards_at shape pace e xs later x ys before same) is
      (λ rest are. decided-so (later ++ x ∷ []) ys rest (same ∙ sym (append_assoc later (x ∷ []) ys)) are)
    where
      whole : all ≡ (since ++ later) ++ x ∷ ys
      whole = ap (λ (zs : List (TimedEvent n m)). since ++ zs) same ∙ sym (append_assoc since later (x ∷ ys))

      of-row : (a : Asked n) (row tick : ℕ) (asks : Asks n) → a ≡ record { row = row; tick = tick; asks = asks } → IsDecidedFor (record { row = row; tick = tick; asks = asks }) asks → Is a
      of-row a row tick asks same is = subst Is (sym same) is

      by : (h : Happens n) (cancels : Bool) (asked : List (Asked n)) → MayCome shape pace e ys x h → Onwards shape all ys x.tick h → Onwards shape xs ys x.tick h
          → IsAsked h cancels x.tick (AreAsked ys) asked → ((rest : List (Asked n)) → AreAsked ys rest → All Is rest) → All Is asked
      by (Core (Write row line bytes given answer)) cancels [] may now then is ih = absurd is
      by (Core (Write row line bytes given answer)) cancels (a ∷ asked) may now then is ih =
          All-cons Is a asked (of-row a row x.tick (Writes line bytes given) is.0 (written ys x row line bytes given answer may now then)) (ih asked is.1)
      by (Core (Read row line answer)) cancels [] may now then is ih = absurd is
      by (Core (Read row line answer)) cancels (a ∷ asked) may now then is ih =
          All-cons Is a asked (of-row a row x.tick (Reads line) is.0 (came-in ys x row line answer now then)) (ih asked is.1)
      by (Core (Cut tearing)) false [] may now then is ih = absurd is
      by (Core (Cut tearing)) false (a ∷ asked) may now then is ih =
          All-cons Is a asked (subst (λ (asks : Asks n). IsDecidedFor a asks) (sym is.1) tt) (ih asked is.2)
      by _ _ asked may now then is ih = ih asked is

  -- so a row that was asked of the bank has by then the outcome that was decided as it came
  by-asks : (over : Bool) (a : Asked n) (asks : Asks n) → IsDecidedFor a asks → is_decided (known_of over shape all a asks) ≡ true → outcome_so_far shape xs a asks ≡ known_of over shape all a asks
  by-asks true a (Reads line) (inl same) is = same
  by-asks true a (Reads line) (inr none) is = absurd (cc (sym none ∙ is))
  by-asks true a (Writes line bytes given) (inl same) is = same ∙ sym (ended-decided a.tick (outcome_of shape all a.row) is).1
  by-asks true a (Writes line bytes given) (inr none) is = absurd (cc (sym none ∙ (ended-decided a.tick (outcome_of shape all a.row) is).0))
  by-asks true a Cuts any is = refl
  by-asks false a (Reads line) (inl same) is = same
  by-asks false a (Reads line) (inr none) is = absurd (cc (sym none ∙ is))
  by-asks false a (Writes line bytes given) (inl same) is = same
  by-asks false a (Writes line bytes given) (inr none) is = absurd (cc (sym none ∙ is))
  by-asks false a Cuts any is = refl

  pub decided-by : (over : Bool) (asked : List (Asked n)) → AreAsked xs asked
      → All (λ (a : Asked n). is_decided (known_of over shape all a a.asks) ≡ true → outcome_so_far shape xs a a.asks ≡ known_of over shape all a a.asks) asked
  decided-by over asked are = λ k d below. by-asks over (get_or asked k d) (get_or asked k d).asks (decided-so [] xs asked refl are k d below)
