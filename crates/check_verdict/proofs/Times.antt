-- The times of a row, by what is kept of its bank.
use Rattle.std.proofs.Common.{◌≡◌, ℕ, ◌+◌, ◌^◌, ◌<◌, ◌≤◌, ◌&&◌, ◌||◌, ◌⊎◌, inl, inr, Bool, true, false, List, [], ◌∷◌, Option, refl, sym, ap, ◌∙◌, arith}
use Rattle.std.{specs.List.list_all, specs.Prelude.{nat_le, nat_lt, not}, proofs.lemmas.Bool.{lt-leb, lt-ltb, cases_lt}}
use Rattle.masked_bytes.proofs.Truth.{and_first, and_second}
use Rattle.result_rows.specs.declared.Outcome.{Outcome}
use Rattle.result_rows.specs.declared.Outcome.TheVariants as out
use Rattle.row_rules.specs.{Answers.{is_stored, is_answered}, Rows.{asks_read, asks_write}, Ticking.{bound, read_in_time, store_in_time, asks_in_time, apart}, declared.Asks.Asks}
use Rattle.row_rules.specs.{declared.Asks.TheVariants.{Reads, Writes, Cuts}, declared.Row.Row, declared.Rules.Rules}
use Rattle.check_judging.{specs.Cutting.{cut_ticks, first_from, first_is}, specs.Distances.ends_behind, specs.Keys.is_short, specs.Rising.rising, proofs.Cuts.first_cut_law}
use Rattle.check_verdict.specs.{Keeping.{before_cut, at_cut, read_timely, write_timely}, Kept.{KeptBank, apart_kept}}
use Rattle.check_verdict.{specs.Timely.{first_of_ticks, latest_store, ReadTimesLaw, WriteTimesLaw}, specs.declared.members.Member.Member, proofs.Apart.apart_kept_law}

-- where the first test passes, the last two are the same
under : (a b x y : Bool) → (a ≡ true → x ≡ y) → ((a && b) && x) ≡ ((a && b) && y)
under true b x y f = ap (λ c. b && c) (f refl)
under false b x y f = refl

cut_before : (u : ℕ) (ticks : List ℕ) → first_from u ticks ≡ before_cut u (first_of_ticks ticks)
cut_before u [] = refl
cut_before u (c ∷ ticks) = refl

cut_at : (u : ℕ) (ticks : List ℕ) → first_is u ticks ≡ at_cut u (first_of_ticks ticks)
cut_at u [] = refl
cut_at u (c ∷ ticks) = refl

module _ {n : ℕ} (rules : Rules) (before : List (Row n)) (tick : ℕ) (after : List (Row n)) (members : List Member) (waits : List ℕ) (lost : ℕ) (last_answer last_store : Option ℕ)
    (kept : KeptBank tick before members waits lost last_answer last_store) (later : rising tick after ≡ true) (some : 0 < rules.read_ticks) (small : rules.read_ticks < 2 ^ 32) where
  distances : (o : Outcome n) → is_short o ≡ true → ends_behind tick o ≡ true
      → list_all (λ q. apart rules.read_ticks o q.outcome) before ≡ apart_kept rules.read_ticks members waits last_answer last_store o
  distances o short above = apart_kept_law n rules.read_ticks tick o before members waits lost last_answer last_store kept short small above

  abbrev Timely : Outcome n → Bool
  Timely o = read_timely tick rules.read_ticks (bound rules tick before after) (first_of_ticks (cut_ticks after)) o

  a_read : (o : Outcome n) → is_short o ≡ true → (not (is_stored o) || false) ≡ true
      → (read_in_time rules tick o before after && list_all (λ q. apart rules.read_ticks o q.outcome) before) ≡ (Timely o && apart_kept rules.read_ticks members waits last_answer last_store o)
  a_read (out.Read u place bytes) short own =
      ap (λ b. (nat_le (tick + rules.read_ticks) u && (nat_le u (bound rules tick before after) && b)) && list_all (λ q. apart rules.read_ticks (out.Read u place bytes) q.outcome) before)
      ((first_cut_law n tick u after later).below ∙ cut_before u (cut_ticks after))
      ∙ late (cases_lt u (tick + rules.read_ticks))
    where
      late : (u < tick + rules.read_ticks) ⊎ (tick + rules.read_ticks ≤ u)
          → (Timely (out.Read u place bytes) && list_all (λ q. apart rules.read_ticks (out.Read u place bytes) q.outcome) before)
          ≡ (Timely (out.Read u place bytes) && apart_kept {n = n} rules.read_ticks members waits last_answer last_store (out.Read u place bytes))
      late (inl lt) =
          let k = lt-leb (tick + rules.read_ticks) u lt in
          ap (λ b. (b && (nat_le u (bound rules tick before after) && before_cut u (first_of_ticks (cut_ticks after)))) && list_all (λ (q : Row n). apart rules.read_ticks (out.Read u place bytes) q.outcome) before) k
          ∙ sym (ap (λ b. (b && (nat_le u (bound rules tick before after) && before_cut u (first_of_ticks (cut_ticks after)))) && apart_kept {n = n} rules.read_ticks members waits last_answer last_store (out.Read u place bytes)) k)
      late (inr le) = ap (λ b. Timely (out.Read u place bytes) && b) (distances (out.Read u place bytes) short (lt-ltb tick u (omega (arith, le, some))))
  a_read (out.Lost u) short own =
      ap (λ b. (b && nat_lt u (bound rules tick before after)) && list_all (λ q. apart rules.read_ticks (out.Lost u) q.outcome) before) ((first_cut_law n tick u after later).at ∙ cut_at u (cut_ticks after))
      ∙ ap (λ b. Timely (out.Lost u) && b) (distances (out.Lost u) short refl)
  a_read (out.Stored u place) short own = absurd (cc)
  a_read answer short own = distances answer short refl

  a_write : (r : Row n) (o : Outcome n) (latest : ℕ) → r.tick ≡ tick → is_short o ≡ true → (not (is_answered o) || false) ≡ true
      → ((u place : ℕ) → o ≡ out.Stored u place → latest ≡ latest_store rules u r before after)
      → (store_in_time rules r o before after && list_all (λ q. apart rules.read_ticks o q.outcome) before) ≡ (write_timely r.tick latest o && apart_kept rules.read_ticks members waits last_answer last_store o)
  a_write r (out.Stored u place) latest at short own is =
      ap (λ k. (nat_lt r.tick u && nat_le u k) && list_all (λ q. apart rules.read_ticks (out.Stored u place) q.outcome) before) (sym (is u place refl))
      ∙ under (nat_lt r.tick u) (nat_le u latest) _ _ (λ k. distances (out.Stored u place) short (ap (λ t. nat_lt t u) (sym at) ∙ k))
  a_write r (out.Read u place bytes) latest at short own is = absurd (cc)
  a_write r answer latest at short own is = distances answer short refl

pub read_times_law : ReadTimesLaw
read_times_law n rules before r after members waits lost last_answer last_store f own reads = by r.asks own reads
  where
    by : (asks : Asks n) → ((not (is_stored r.outcome) || asks_write asks) && (not (is_answered r.outcome) || asks_read asks)) ≡ true → asks_read asks ≡ true
        → (asks_in_time rules r asks before after && list_all (λ q. apart rules.read_ticks r.outcome q.outcome) before)
        ≡ (read_timely r.tick rules.read_ticks (bound rules r.tick before after) (first_of_ticks (cut_ticks after)) r.outcome && apart_kept rules.read_ticks members waits last_answer last_store r.outcome)
    by (Reads line) own reads = a_read rules before r.tick after members waits lost last_answer last_store f.kept f.later f.some f.small r.outcome f.short (and_first (not (is_stored r.outcome) || false) _ own)
    by (Writes line bytes given) own reads = absurd (cc)
    by Cuts own reads = absurd (cc)

pub write_times_law : WriteTimesLaw
write_times_law n rules before r after members waits lost last_answer last_store latest f own writes is = by r.asks own writes
  where
    by : (asks : Asks n) → ((not (is_stored r.outcome) || asks_write asks) && (not (is_answered r.outcome) || asks_read asks)) ≡ true → asks_write asks ≡ true
        → (asks_in_time rules r asks before after && list_all (λ q. apart rules.read_ticks r.outcome q.outcome) before)
        ≡ (write_timely r.tick latest r.outcome && apart_kept rules.read_ticks members waits last_answer last_store r.outcome)
    by (Writes line bytes given) own writes =
        a_write rules before r.tick after members waits lost last_answer last_store f.kept f.later f.some f.small r r.outcome latest refl f.short (and_second (not (is_stored r.outcome) || true) _ own) is
    by (Reads line) own writes = absurd (cc)
    by Cuts own writes = absurd (cc)
