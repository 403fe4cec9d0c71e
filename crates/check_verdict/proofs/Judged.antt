-- A row's verdict, by what is kept of its bank and known of the rows behind it.
use Rattle.std.proofs.Common.{◌≡◌, ℕ, ◌+◌, ◌&&◌, ◌||◌, Bool, true, false, List, [], Option, Some, None, length, refl, ap, ◌∙◌, cond, arith}
use Rattle.std.{specs.List.list_any, specs.Prelude.{not, nat_le}, proofs.lemmas.Bool.le-leb}
use Rattle.masked_bytes.specs.Masked.{gives_all}
use Rattle.result_rows.specs.declared.Outcome.{Outcome}
use Rattle.result_rows.specs.declared.Outcome.TheVariants as out
use Rattle.row_rules.specs.{Answers.is_worn, Queueing.{cover, read_fits, has_room}, Rows.newest, Serving.may_have, Ticking.bound, Wearing.worn_row}
use Rattle.row_rules.specs.declared.Asks.TheVariants.{Reads, Writes, Cuts}
use Rattle.check_judging.{specs.Cutting.cut_ticks, proofs.FirstWorn.worn_law}
use Rattle.check_verdict.specs.{Fitting.{at_head_kept, write_fits}, Judged.{first_broken, beside, a_write, a_read, a_cut, JudgeWriteLaw, JudgeReadLaw, JudgeCutLaw}}
use Rattle.check_verdict.specs.{Keeping.{stored_early, read_timely, write_timely}, Kept.apart_kept, QueueLaws.next_accepted, Timely.first_of_ticks, Verdicts.all_have_room}
use Rattle.check_verdict.{specs.Worn.first_worn, specs.declared.Rule.Rule, proofs.Queueing.{write_fits_law, read_fits_law}, proofs.Tables.own_law}
use Rattle.check_verdict.proofs.{Times.{read_times_law, write_times_law}, Wears.worn_kept_law}
use Rattle.check_verdict.specs.declared.Rule.TheVariants as rule

-- the rules in their order
abbrev broken : Bool → Bool → Bool → Bool → Option Rule
broken served queue wear timely =
    cond served (cond queue (cond wear (cond timely None (Some rule.Tick)) (Some rule.Worn)) (Some rule.Queue)) (Some rule.Serves)

-- where a row is served, the other tests may be told by it
told : (served queue fits wear worn timely late room : Bool) → queue ≡ (room && fits) → wear ≡ worn → (served ≡ true → timely ≡ late)
    → broken served queue wear timely ≡ first_broken served room fits worn late
told true queue fits wear worn timely late room a b c =
    ap (λ x. broken true x wear timely) a ∙ ap (λ x. broken true (room && fits) x timely) b ∙ ap (λ x. broken true (room && fits) worn x) (c refl)
told false queue fits wear worn timely late room a b c = refl

-- each bank's room, with the room of one's own
rooms : (all own room fits answer : Bool) → all ≡ room → (room ≡ true → own ≡ true) → answer ≡ fits → (all && (own && answer)) ≡ (room && fits)
rooms all own true fits answer a b c = ap (λ x. x && (own && answer)) a ∙ ap (λ x. x && answer) (b refl) ∙ c
rooms all own false fits answer a b c = ap (λ x. x && (own && answer)) a

-- a write's outcome goes by no bytes
written : {n : ℕ} (tick line : ℕ) (bytes : List ℕ) (given : List Bool) (some other : List ℕ) (o : Outcome n)
    → may_have tick (Writes line bytes given) some o ≡ may_have tick (Writes line bytes given) other o
written tick line bytes given some other out.Unset = refl
written tick line bytes given some other _ = refl

cutting : {n : ℕ} (tick : ℕ) (some other : List ℕ) (o : Outcome n) → may_have tick Cuts some o ≡ may_have tick Cuts other o
cutting tick some other out.Unset = refl
cutting tick some other _ = refl

pub judge_write_law : JudgeWriteLaw
judge_write_law n tick line bytes given outcome rules banks some before after members waits lost last_answer last_store room latest found times rooms_are latest_is =
    told (may_have tick (Writes line bytes given) [] outcome) _
    (write_fits rules.writes tick line members (next_accepted line (beside banks line after)) outcome) _
    (is_worn outcome || (not (list_any worn_row (beside banks line before)) && stored_early (first_worn (beside banks line after)) outcome)) _
    (write_timely tick latest outcome && apart_kept rules.read_ticks members waits last_answer last_store outcome) room
    (rooms (all_have_room banks rules before (a_write tick line bytes given outcome) after) (has_room rules tick (beside banks line before)) room _ _ rooms_are.all rooms_are.own
    (write_fits_law n line bytes given rules (beside banks line before) (a_write tick line bytes given outcome) (beside banks line after) members waits lost last_answer last_store found))
    (worn_kept_law n tick (beside banks line before) (a_write tick line bytes given outcome) (beside banks line after) times.later refl)
    (λ served. write_times_law n rules (beside banks line before) (a_write tick line bytes given outcome) (beside banks line after) members waits lost last_answer last_store latest times (own_law n (a_write tick line bytes given outcome) [] served) refl latest_is)
    ∙ ap (λ b. first_broken b room (write_fits rules.writes tick line members (next_accepted line (beside banks line after)) outcome)
    (is_worn outcome || (not (list_any worn_row (beside banks line before)) && stored_early (first_worn (beside banks line after)) outcome))
    (write_timely tick latest outcome && apart_kept rules.read_ticks members waits last_answer last_store outcome)) (written tick line bytes given [] some outcome)

pub judge_read_law : JudgeReadLaw
judge_read_law n tick line outcome rules banks before after members waits keys lost last_answer last_store room found times rooms_are tell =
    told (may_have tick (Reads line) (newest before line) outcome) _
    (read_fits rules.reads (length waits + lost) (gives_all (cover tick line (beside banks line before) (beside banks line after))) (at_head_kept keys line tick members) outcome) _
    true _
    (read_timely tick rules.read_ticks (bound rules tick (beside banks line before) (beside banks line after)) (first_of_ticks (cut_ticks (beside banks line after))) outcome && apart_kept rules.read_ticks members waits last_answer last_store outcome) room
    (rooms (all_have_room banks rules before (a_read tick line outcome) after) (has_room rules tick (beside banks line before)) room _ _ rooms_are.all rooms_are.own
    (read_fits_law n line rules (beside banks line before) (a_read tick line outcome) (beside banks line after) members waits keys lost last_answer last_store found tell))
    (worn_law n tick (beside banks line before) (a_read tick line outcome) (beside banks line after) times.later)
    (λ served. read_times_law n rules (beside banks line before) (a_read tick line outcome) (beside banks line after) members waits lost last_answer last_store times (own_law n (a_read tick line outcome) (newest before line) served) refl)

pub judge_cut_law : JudgeCutLaw
judge_cut_law n tick outcome rules banks some before after room is =
    told (may_have tick Cuts [] outcome) _ true true true true true room
    (rooms (all_have_room banks rules before (a_cut tick outcome) after) (has_room {n = n} rules tick []) room true true is (λ h. empty) refl) refl (λ h. refl)
    ∙ ap (λ b. first_broken b room true true true) (cutting tick [] some outcome)
  where
    empty : has_room {n = n} rules tick [] ≡ true
    empty = ap (λ b. b && (nat_le 0 rules.reads && true)) (le-leb 0 rules.writes (omega arith)) ∙ ap (λ b. b && true) (le-leb 0 rules.reads (omega arith))
