-- What is kept of a bank, as rows pass.
use Rattle.std.specs.{List.list_any, Prelude.{◌≡◌, ℕ, ◌+◌, ◌<◌, ◌≤◌, not, Bool, true, false, IsTrue, List, [], ◌∷◌, ◌++◌, Option, Some, None, filter, nat_le, nat_lt}}
use Rattle.result_rows.specs.declared.Outcome.{Outcome}
use Rattle.result_rows.specs.declared.Outcome.TheVariants as out
use Rattle.row_rules.specs.{Queueing.has_room, Serving.may_have, Wearing.worn_row, declared.Asks.TheVariants.{Reads, Writes, Cuts}, declared.Row.Row, declared.Rules.Rules}
use Rattle.check_judging.specs.{Distances.{later_of, ends_behind}, Near.NearRoom, Rising.falling}
use Rattle.check_verdict.specs.{Fitting.is_brief, Joined.stays_beside, Judged.{a_write, a_read, a_cut}, Kept.{sight, sight_of, ended}, Members.never, QueueLaws.Finds}
use Rattle.check_verdict.specs.{Tables.KeptFour, declared.members.Member.Member}

-- what is kept of a bank: the writes in its queue, the ticks of the reads that wait, how many a cut will lose, the last read and the
-- last store, whether a row was worn, and the last four of the reads that came
pub record Facts : Type 0 where
  pub members : List Member
  pub waits : List ℕ
  pub lost : ℕ
  pub last_answer : Option ℕ
  pub last_store : Option ℕ
  pub worn : Bool
  pub first : Option ℕ
  pub second : Option ℕ
  pub third : Option ℕ
  pub fourth : Option ℕ

-- of no row
abbrev pub no_facts : Facts
no_facts = record { members = []; waits = []; lost = 0; last_answer = None; last_store = None; worn = false; first = None; second = None; third = None; fourth = None }

-- as time passes
abbrev pub settled : ℕ → Facts → Facts
settled u f = record {
  members = filter (λ m. not (nat_le m.end u)) f.members;
  waits = filter (λ v. nat_lt u v) f.waits;
  lost = f.lost;
  last_answer = f.last_answer;
  last_store = ended u f.members f.last_store;
  worn = f.worn;
  first = f.first;
  second = f.second;
  third = f.third;
  fourth = f.fourth;
}

-- with a member more, and the one that is merged into it left
abbrev pub with_member : ℕ → Member → Facts → Facts
with_member line m f = record {
  members = filter (stays_beside line) f.members ++ m ∷ [];
  waits = f.waits;
  lost = f.lost;
  last_answer = f.last_answer;
  last_store = f.last_store;
  worn = f.worn;
  first = f.first;
  second = f.second;
  third = f.third;
  fourth = f.fourth;
}

abbrev pub with_worn : Facts → Facts
with_worn f = record {
  members = f.members;
  waits = f.waits;
  lost = f.lost;
  last_answer = f.last_answer;
  last_store = f.last_store;
  worn = true;
  first = f.first;
  second = f.second;
  third = f.third;
  fourth = f.fourth;
}

-- with another read that came at a tick
abbrev pub with_arrival : ℕ → Facts → Facts
with_arrival tick f = record {
  members = f.members;
  waits = f.waits;
  lost = f.lost;
  last_answer = f.last_answer;
  last_store = f.last_store;
  worn = f.worn;
  first = Some tick;
  second = f.first;
  third = f.second;
  fourth = f.third;
}

-- with a read more that came at a tick, and is read
abbrev pub with_answer : ℕ → ℕ → Facts → Facts
with_answer tick u f = record {
  members = f.members;
  waits = f.waits ++ u ∷ [];
  lost = f.lost;
  last_answer = later_of u f.last_answer;
  last_store = f.last_store;
  worn = f.worn;
  first = Some tick;
  second = f.first;
  third = f.second;
  fourth = f.third;
}

-- and one that is lost
abbrev pub with_loss : ℕ → Facts → Facts
with_loss tick f = record {
  members = f.members;
  waits = f.waits;
  lost = f.lost + 1;
  last_answer = f.last_answer;
  last_store = f.last_store;
  worn = f.worn;
  first = Some tick;
  second = f.first;
  third = f.second;
  fourth = f.third;
}

-- behind a cut
abbrev pub cut_off : Facts → Facts
cut_off f = record {
  members = f.members;
  waits = f.waits;
  lost = 0;
  last_answer = f.last_answer;
  last_store = f.last_store;
  worn = f.worn;
  first = f.first;
  second = f.second;
  third = f.third;
  fourth = f.fourth;
}

module _ {n : ℕ} where
  -- behind a write, with the member that it would be
  abbrev pub after_write : ℕ → Member → Outcome n → Facts → Facts
  after_write line m (out.Stored u place) f = with_member line m f
  after_write line m (out.Merged u) f = with_member line m f
  after_write line m (out.Queued u) f = with_member line m f
  after_write line m (out.Worn u) f = with_worn f
  after_write line m _ f = f

  -- behind a read
  abbrev pub after_read : ℕ → Outcome n → Facts → Facts
  after_read tick (out.Read u place bytes) f = with_answer tick u f
  after_read tick (out.Lost u) f = with_loss tick f
  after_read tick _ f = f

-- these are the facts of a bank's rows at a tick, where pairs in its queue are in order but for the newest
pub record Stands {n : ℕ} (t : ℕ) (rows : List (Row n)) (f : Facts) : Type 0 where
  pub finds : Finds t rows f.members f.waits f.lost f.last_answer f.last_store
  pub near : NearRoom t rows
  pub worn_is : f.worn ≡ list_any worn_row rows
  pub four : KeptFour rows f.first f.second f.third f.fourth
  pub passed : IsTrue (falling t rows)

-- as time passes
abbrev pub StandsLaterLaw : Type 0
StandsLaterLaw = (n t u : ℕ) (rows : List (Row n)) (f : Facts) → t ≤ u → u < never → Stands t rows f → Stands u rows (settled u f)

-- behind a write that may have its outcome, comes where there is room, and is stored above its tick
abbrev pub WritePassesLaw : Type 0
WritePassesLaw =
    (n tick line : ℕ) (bytes : List ℕ) (given : List Bool) (outcome : Outcome n) (rules : Rules) (rows : List (Row n)) (f : Facts) (m : Member) (some : List ℕ)
    → Stands tick rows f → IsTrue (has_room rules tick rows) → IsTrue (may_have tick (Writes line bytes given) some outcome) → IsTrue (is_brief outcome)
    → IsTrue (ends_behind tick outcome) → sight m ≡ sight_of (a_write tick line bytes given outcome)
    → Stands tick (a_write tick line bytes given outcome ∷ rows) (after_write line m outcome f)

-- behind a read
abbrev pub ReadPassesLaw : Type 0
ReadPassesLaw =
    (n tick line : ℕ) (outcome : Outcome n) (rules : Rules) (rows : List (Row n)) (f : Facts) (some : List ℕ)
    → Stands tick rows f → IsTrue (has_room rules tick rows) → IsTrue (may_have tick (Reads line) some outcome) → IsTrue (is_brief outcome)
    → IsTrue (ends_behind tick outcome)
    → Stands tick (a_read tick line outcome ∷ rows) (after_read tick outcome f)

-- behind a cut
abbrev pub CutPassesLaw : Type 0
CutPassesLaw =
    (n tick : ℕ) (outcome : Outcome n) (rules : Rules) (rows : List (Row n)) (f : Facts) (some : List ℕ)
    → Stands tick rows f → IsTrue (has_room rules tick rows) → IsTrue (may_have tick Cuts some outcome) → IsTrue (is_brief outcome)
    → Stands tick (a_cut tick outcome ∷ rows) (cut_off f)
