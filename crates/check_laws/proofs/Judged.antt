-- Rows that are served keep each rule, and so do those of a right run.
use Rattle.std.proofs.Common.{◌≡◌, ℕ, zero, suc, ◌+◌, ◌<◌, ◌&&◌, Bool, true, false, List, [], ◌∷◌, map, refl, sym, ◌∙◌, subst, arith}
use Rattle.std.{specs.List.range_with_len, specs.Prelude.{nat_le, reverse}, proofs.lemmas.Bool.{le-leb, and_from}, proofs.lemmas.List.reverse-reverse}
use Rattle.std.proofs.{lemmas.List.FromFn.get_or-map-range_with_len, lemmas.Option.unwrap_or-slice_get}
use Rattle.row_rules.specs.{Queueing.{has_room, is_queue_fair}, Rows.{RowTest, each_row}, Serving.is_served, Ticking.is_in_time, Wearing.is_wear_final, declared.Row.Row}
use Rattle.row_rules.{specs.declared.Rules.Rules, proofs.Passing.passes_both}
use Rattle.cell_rows.specs.Device.{ArrayState}
use Rattle.check_verdict.specs.{Judging.VerdictLaw, Verdicts.{bank_in, in_bank, all_have_room, keeps_all}}
use Rattle.module_shape.specs.{Limits.total_of, declared.raw.RawShape.RawShape}
use Rattle.module_laws.specs.Serves.{AreLines}
use Rattle.right_runs.specs.{Banks.{bank_of_line, line_in_bank, rules_in, banks_of}, Runs.ServesTo, Tables.table_in}
use Rattle.run_laws.specs.FinishedLaws.{LinesLaw}
use Rattle.check_laws.specs.Verdicts.{RulesKeptLaw, ServedRulesLaw, ServedYesLaw, YesLaw}
use Rattle.check_laws.proofs.{InBanks.{Exist, exist-all, AreBanks, IsOfBank, apart, IsOfTables, all_rooms, in_tables}, Renaming.queue-named, Timing.{wear-named, ticks-named}}

module _ {n : ℕ} where
  -- the test that is always passed
  passes_any : (rows after : List (Row n)) → each_row (λ before r after. true) rows after ≡ true
  passes_any [] after = refl
  passes_any (r ∷ before) after = passes_any before (r ∷ after)

-- a bank without rows has room
empty-room : (n : ℕ) (rules : Rules) (tick : ℕ) → has_room {n = n} rules tick [] ≡ true
empty-room n rules tick =
    and_from (nat_le 0 rules.writes) (nat_le 0 rules.reads && true) (le-leb 0 rules.writes (omega arith)) (and_from (nat_le 0 rules.reads) true (le-leb 0 rules.reads (omega arith)) refl)

-- what each of so many numbers from one on is, each of a list is
banks_in : (raw : RawShape) (seed : ℕ) → ((line : ℕ) → line < total_of raw → bank_of_line raw seed line < raw.banks) → (count from : ℕ) → from + count ≡ total_of raw
    → AreBanks raw.banks (map (bank_of_line raw seed) (range_with_len from count))
banks_in raw seed exists zero from whole = tt
banks_in raw seed exists (suc count) from whole = (exists from (omega (arith, whole)), banks_in raw seed exists count (from + 1) (omega (arith, whole)))

module _ (raw : RawShape) (seed : ℕ) (known : AreLines raw.banks (total_of raw) (bank_of_line raw seed) (line_in_bank raw seed)) where
  -- the bank of a line, by the list of banks
  listed : (line : ℕ) → line < total_of raw → bank_in (banks_of raw seed) line ≡ bank_of_line raw seed line
  listed line exists = unwrap_or-slice_get (banks_of raw seed) line 0 ∙ get_or-map-range_with_len (bank_of_line raw seed) 0 (total_of raw) line line 0 exists (omega arith)

  module _ {n m : ℕ} (e : ℕ) (off : Bool) (rows : List (Row n)) (array : ArrayState n m) (exist : Exist (total_of raw) rows) (serves : ServesTo e raw seed off rows array) where
    abbrev rules : Rules
    rules = rules_in e raw 0

    abbrev IsOf : RowTest n → Type 0
    IsOf test = IsOfTables raw.banks (total_of raw) (bank_of_line raw seed) (line_in_bank raw seed) known (banks_of raw seed) listed test

    -- what each bank's table keeps
    kept : (test : RowTest n) → IsOf test → ((bank : ℕ) → bank < raw.banks → each_row test (table_in raw seed bank rows) [] ≡ true)
        → each_row (in_bank (banks_of raw seed) test) rows [] ≡ true
    kept test is h = in_tables raw.banks (total_of raw) (bank_of_line raw seed) (line_in_bank raw seed) known (banks_of raw seed) listed test is rows [] exist tt h

    queue_is : IsOf (is_queue_fair rules)
    queue_is = record {
      named = λ bank before r after earlier of later.
          queue-named (bank_of_line raw seed) (line_in_bank raw seed) (IsOfBank (total_of raw) (bank_of_line raw seed) bank)
          (apart raw.banks (total_of raw) (bank_of_line raw seed) (line_in_bank raw seed) known bank) rules before r after earlier of later;
      cut = λ tick o. and_from (has_room {n = n} rules tick []) true (empty-room n rules tick) refl;
    }

    wear_is : IsOf is_wear_final
    wear_is = record {
      named = λ bank before r after earlier of later. wear-named (bank_of_line raw seed) (line_in_bank raw seed) before r after;
      cut = λ tick o. refl;
    }

    ticks_are : IsOf (is_in_time rules)
    ticks_are = record {
      named = λ bank before r after earlier of later. ticks-named (bank_of_line raw seed) (line_in_bank raw seed) rules before r after;
      cut = λ tick o. refl;
    }

    pub all_kept : AreBanks raw.banks (banks_of raw seed) → each_row (keeps_all rules (banks_of raw seed)) rows [] ≡ true
    all_kept are =
        passes_both is_served _ rows [] serves.served
        (passes_both _ _ rows []
        (passes_both (all_have_room (banks_of raw seed) rules) (in_bank (banks_of raw seed) (is_queue_fair rules)) rows []
        (all_rooms raw.banks (total_of raw) (bank_of_line raw seed) (line_in_bank raw seed) known (banks_of raw seed) listed rules are rows [] exist (λ bank few. serves.room bank few))
        (kept (is_queue_fair rules) queue_is (λ bank few. (serves.banks bank few).queue)))
        (passes_both (in_bank (banks_of raw seed) is_wear_final) _ rows [] (kept is_wear_final wear_is (λ bank few. (serves.banks bank few).wear))
        (passes_both (in_bank (banks_of raw seed) (is_in_time rules)) (λ before r after. true) rows [] (kept (is_in_time rules) ticks_are (λ bank few. (serves.banks bank few).ticks)) (passes_any rows []))))

pub served_rules_law : LinesLaw → ServedRulesLaw
served_rules_law lines off n m e raw seed rows array is exist serves =
    let known = lines raw seed is in
    subst (λ (rs : List (Row n)). each_row (keeps_all (rules_in e raw 0) (banks_of raw seed)) rs [] ≡ true) (sym (reverse-reverse rows))
    (all_kept raw seed known e off rows array (exist-all (total_of raw) rows exist) serves (banks_in raw seed known.exists (total_of raw) 0 (omega arith)))

pub served_yes_law : VerdictLaw → ServedRulesLaw → ServedYesLaw
served_yes_law exact kept off n m e raw seed rows array is exist serves =
    (exact n (rules_in e raw 0) (banks_of raw seed) (reverse rows)).0.yes (kept off n m e raw seed rows array is exist serves)

pub rules_kept_law : ServedRulesLaw → RulesKeptLaw
rules_kept_law served n m e raw seed rows array ends is exist right = served false n m e raw seed rows array is exist right.serves

pub yes_law : ServedYesLaw → YesLaw
yes_law served n m e raw seed rows array ends is exist right = served false n m e raw seed rows array is exist right.serves
