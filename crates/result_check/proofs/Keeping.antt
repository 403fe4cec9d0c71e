-- What is kept of the rows that have passed.
use Rattle.std.proofs.Common.{get_or, ◌≡◌, ℕ, ◌<◌, ◌≤◌, ◌⊎◌, inl, inr, true, List, [], length, Option, Some, None, refl, sym, ap, ◌∙◌, cond, subst, arith}
use Rattle.std.{specs.Prelude.{All, slice_get, slice_set, unwrap_or}, proofs.Math.ListN.length-set, proofs.lemmas.Bool.{cases_eq, cases_lt, eq-eqb, ne_eqb}}
use Rattle.std.proofs.lemmas.Option.{slice_get_past, unwrap_or-slice_get}
use Rattle.result_rows.specs.declared.Outcome.TheVariants as out
use Rattle.row_rules.specs.{Queueing.has_room, Table.of_bank, declared.Row.Row, declared.Rules.Rules}
use Rattle.check_verdict.specs.{Judged.a_cut, Members.never, Passing.{Passed, put, joined_room}, States.{Facts, Stands, no_facts, settled, cut_off}, Verdicts.bank_in}
use Rattle.check_verdict.proofs.Passing.{all_room_law, settle_one_law, room_seen_law}
use Rattle.result_check.{specs.Keeping.{facts_in, Knows}, proofs.Lists.{get_set_same, get_set_other}}
use Rattle.masked_bytes.proofs.Lists.{item-at}

facts_set_same : (kept : List Facts) (bank : ℕ) (f : Facts) → bank < length kept → facts_in (slice_set kept bank f) bank ≡ f
facts_set_same kept bank f lt = ap (λ o. unwrap_or o no_facts) (get_set_same kept bank f lt)

facts_set_other : (kept : List Facts) (bank k : ℕ) (f : Facts) → (k ≡ bank → ⊥) → facts_in (slice_set kept bank f) k ≡ facts_in kept k
facts_set_other kept bank k f off = ap (λ o. unwrap_or o no_facts) (get_set_other kept bank k f off)

-- the cut has come to the first so many banks
pub record IsCutTo (tick reached : ℕ) (old new : List Facts) : Type 0 where
  pub below : (k : ℕ) → k < reached → facts_in new k ≡ cut_off (settled tick (facts_in old k))
  pub above : (k : ℕ) → reached ≤ k → facts_in new k ≡ facts_in old k
  pub number : length new ≡ length old

pub cut_none : (tick : ℕ) (old : List Facts) → IsCutTo tick 0 old old
cut_none tick old = record { below = λ k lt. absurd (omega (arith, lt)); above = λ k le. refl; number = refl }

pub cut_every : (tick reached : ℕ) (old new : List Facts) → length new ≤ reached → IsCutTo tick reached old new → (k : ℕ) → facts_in new k ≡ cut_off (settled tick (facts_in old k))
cut_every tick reached old new le had k = by (cases_lt k reached)
  where
    past : reached ≤ k → facts_in old k ≡ no_facts
    past more = let size = had.number in ap (λ o. unwrap_or o no_facts) (slice_get_past old k (omega (arith, size, le, more)))

    by : (k < reached) ⊎ (reached ≤ k) → facts_in new k ≡ cut_off (settled tick (facts_in old k))
    by (inl lt) = had.below k lt
    by (inr more) = had.above k more ∙ past more ∙ sym (ap (λ g. cut_off (settled tick g)) (past more))

-- what is known is known of the same facts
pub same_facts : {n : ℕ} (rules : Rules) (banks : List ℕ) (tick : ℕ) (at : ℕ → ℕ) (facts other : ℕ → Facts) (joined : Option ℕ) (before : List (Row n))
    → ((k : ℕ) → facts k ≡ other k) → Passed rules banks tick at facts joined before → Passed rules banks tick at other joined before
same_facts rules banks tick at facts other joined before same p = record {
  stand = λ k. subst (λ f. Stands (at k) (of_bank (bank_in banks) k before) f) (same k) (p.stand k);
  by = p.by;
  room = p.room;
  known = p.known;
}

pub put_set : (kept : List Facts) (bank : ℕ) (f : Facts) → bank < length kept → (k : ℕ) → put (facts_in kept) bank f k ≡ facts_in (slice_set kept bank f) k
put_set kept bank f lt k = by (cases_eq k bank)
  where
    by : (k ≡ bank) ⊎ (k ≡ bank → ⊥) → put (facts_in kept) bank f k ≡ facts_in (slice_set kept bank f) k
    by (inl e) = ap (λ b. cond b f (facts_in kept k)) (eq-eqb k bank e) ∙ sym (ap (facts_in (slice_set kept bank f)) e ∙ facts_set_same kept bank f lt)
    by (inr off) = ap (λ b. cond b f (facts_in kept k)) (ne_eqb k bank off) ∙ sym (facts_set_other kept bank k f off)

-- once the bank of a line is settled
pub knows_settled : {n : ℕ} (rules : Rules) (banks : List ℕ) (from tick bank : ℕ) (kept new : List Facts) (joined : Option ℕ) (before : List (Row n))
    → from ≤ tick → tick < never → bank < length kept → new ≡ slice_set kept bank (settled tick (facts_in kept bank))
    → Knows rules banks from kept joined before → Knows rules banks tick new joined before
knows_settled {n} rules banks from tick bank kept new joined before le below lt is k = record {
  at = put k.at bank tick;
  passed =
      same_facts rules banks tick (put k.at bank tick) (put (facts_in kept) bank (settled tick (facts_in kept bank))) (facts_in new) joined before
      (λ j. put_set kept bank (settled tick (facts_in kept bank)) lt j ∙ ap (λ xs. facts_in xs j) (sym is))
      (settle_one_law n from tick bank rules banks k.at (facts_in kept) joined before k.passed le below);
}

-- once the bank of the last row is settled and seen to have room
pub knows_seen : {n : ℕ} (rules : Rules) (banks : List ℕ) (from tick line : ℕ) (kept new : List Facts) (before : List (Row n))
    → from ≤ tick → tick < never → line < length banks → bank_in banks line < length kept
    → new ≡ slice_set kept (bank_in banks line) (settled tick (facts_in kept (bank_in banks line)))
    → Knows rules banks from kept (Some line) before
    → joined_room rules banks tick (facts_in kept) (Some line) ≡ true
    → Knows rules banks tick new None before
knows_seen {n} rules banks from tick line kept new before le below within lt is k room =
    let bank = bank_in banks line in
    let f = settled tick (facts_in kept bank) in
    let cut = a_cut tick (out.Cut tick) in
    let all = all_room_law n from rules banks k.at (facts_in kept) (Some line) before cut [] line k.passed le below within in
    let now = eq-put k.at bank tick in
    record {
      at = put k.at bank tick;
      passed =
          same_facts rules banks tick (put k.at bank tick) (put (facts_in kept) bank f) (facts_in new) None before
          (λ j. put_set kept bank f lt j ∙ ap (λ xs. facts_in xs j) (sym is))
          (room_seen_law n tick line rules banks (put k.at bank tick) (put (facts_in kept) bank f) before
          (settle_one_law n from tick bank rules banks k.at (facts_in kept) (Some line) before k.passed le below)
          (subst (λ t. has_room rules t (of_bank (bank_in banks) bank before) ≡ true) (sym now) (all.own room)));
    }
  where
    eq-put : (at : ℕ → ℕ) (bank tick : ℕ) → put at bank tick bank ≡ tick
    eq-put at bank tick = ap (λ b. cond b tick (at bank)) (eq-eqb bank bank refl)

-- the bank of a line is there
pub bank_exists : (banks : List ℕ) (line number : ℕ) → line < length banks → All (λ bank. bank < number) banks → bank_in banks line < number
bank_exists banks line number lt all =
    subst (λ b. b < number) (sym (unwrap_or-slice_get banks line 0)) (all line 0 lt)

-- a settled bank has what it has
pub facts_settled : (kept new : List Facts) (bank : ℕ) (f : Facts) → bank < length kept → new ≡ slice_set kept bank f → facts_in new bank ≡ f
facts_settled kept new bank f lt is = ap (λ xs. facts_in xs bank) is ∙ facts_set_same kept bank f lt

pub facts_got : (kept : List Facts) (bank : ℕ) (f : Facts) → slice_get kept bank ≡ Some f → facts_in kept bank ≡ f
facts_got kept bank f is = ap (λ o. unwrap_or o no_facts) is

-- the bank of a line, once it is settled, and what is kept of it
pub record IsSettled (banks : List ℕ) (tick line : ℕ) (kept kept1 : List Facts) (number : ℕ) (f : Facts) : Type 0 where
  pub here : number ≡ bank_in banks line
  pub settles : kept1 ≡ slice_set kept (bank_in banks line) (settled tick (facts_in kept (bank_in banks line)))
  pub is : f ≡ settled tick (facts_in kept (bank_in banks line))

pub is_settled : (banks : List ℕ) (tick line : ℕ) (kept kept1 : List Facts) (number : ℕ) (f got : Facts) → line < length banks → All (λ bank. bank < length kept) banks
    → number ≡ bank_in banks line → kept1 ≡ slice_set kept (bank_in banks line) (settled tick (facts_in kept (bank_in banks line))) → got ≡ get_or kept1 number got → f ≡ got
    → IsSettled banks tick line kept kept1 number f
is_settled banks tick line kept kept1 number f got within exist here settles read same =
    let exists = bank_exists banks line (length kept) within exist in
    let size : length kept1 ≡ length kept = ap length settles ∙ length-set kept _ _ in
    record {
      here = here;
      settles = settles;
      is =
          same ∙ sym (facts_got kept1 number got (item-at kept1 number got (omega (arith, size, exists, here)) read)) ∙ ap (facts_in kept1) here
          ∙ facts_settled kept kept1 (bank_in banks line) _ exists settles;
    }
