use Rattle.std.proofs.Common.{◌≡◌, ℕ, ◌+◌, suc, Some, length, refl, sym, subst, arith}
use Rattle.std.{specs.Prelude.{slice_get, IsPermutation}, proofs.lemmas.List.Sorted.IsNonDecreasingBy-from_sort, proofs.lemmas.Option.slice_get_read}
use Rattle.trace_rows.specs.Rows.{rows_with, row_of}
use Rattle.result_check.{specs.Tables.IsRowOf, proofs.Finding.{IsFoundTo, outcome_there, rows_next, rows_length, found_more, found_all}}
use Rattle.result_check.proofs.Rows.{one_of_all, one_of_every, short_of_brief}
use Rattle.result_check.proofs.found.Found.of.Goals as goal
use Rattle.trace_reader.proofs.Sizes.{event_fits}
use Rattle.result_rows.proofs.Sizes.{outcome_fits}

pub add-requires : goal.add-requires
add-requires g c =
    let events = c.args.events.now in
    let event = c.index-events-i.result in
    let at : slice_get events c.loop-i.i ≡ Some event = slice_get_read events (length events) c.loop-i.i event refl c.loop-i-test.true c.index-events-i.is in
    let next = rows_next events c.args.results.now c.loop-i.i event c.get.result.now at (outcome_there c.args.results.now c.loop-i.i c.get.result.now c.get.ensures) in
    let rows = rows_with events c.args.results.now in (
      event_fits g.row.B c.requires.small,
      (
        outcome_fits g.row.B c.requires.small,
        (
          (one_of_every (IsRowOf (length c.args.banks.now)) rows c.loop-i.i (row_of event c.get.result.now) _ next c.requires.table.each).line,
          short_of_brief c.get.result.now (one_of_all _ rows c.loop-i.i (row_of event c.get.result.now) _ next c.requires.table.brief),
        ),
      ),
    )

pub loop-i-preserved : goal.loop-i-preserved
loop-i-preserved g c =
    let events = c.args.events.now in
    let event = c.index-events-i.result in
    let at : slice_get events c.loop-i.i ≡ Some event = slice_get_read events (length events) c.loop-i.i event refl c.loop-i-test.true c.index-events-i.is in
    let next = rows_next events c.args.results.now c.loop-i.i event c.get.result.now at (outcome_there c.args.results.now c.loop-i.i c.get.result.now c.get.ensures) in
    let rows = rows_with events c.args.results.now in
    let one : suc c.loop-i.i ≡ c.loop-i.i + 1 = omega arith in
    subst (λ i. IsFoundTo c.args.banks.now rows i c.add.new.self) one
    (found_more c.args.banks.now rows c.loop-i.i (row_of event c.get.result.now) c.loop-i.found c.add.new.self next c.loop-i.invariant
    c.in_ok-add.ensures.stores c.in_ok-add.ensures.reads c.in_ok-add.ensures.lines c.in_ok-add.ensures.cuts)

pub returns : goal.returns
returns g c =
    let rows = rows_with c.args.events.now c.args.results.now in
    let long = rows_length c.args.events.now c.args.results.now c.requires.rows in
    let done = found_all c.args.banks.now rows c.loop-i.i c.loop-i.found (omega arith) c.loop-i.invariant in
    record {
      stores = subst (λ xs. IsPermutation xs c.sort_unstable.new.self.items) (sym done.0) c.sort_unstable.ensures.permutation;
      stores_sorted = IsNonDecreasingBy-from_sort (λ (x : ℕ). x) _ c.sort_unstable.ensures.sorted;
      lines = subst (λ xs. IsPermutation xs c.sort_unstable-2.new.self.items) (sym done.2) c.sort_unstable-2.ensures.permutation;
      lines_sorted = IsNonDecreasingBy-from_sort (λ (x : ℕ). x) _ c.sort_unstable-2.ensures.sorted;
      reads = subst (λ xs. IsPermutation xs c.sort_unstable-3.new.self.items) (sym done.1) c.sort_unstable-3.ensures.permutation;
      reads_sorted = IsNonDecreasingBy-from_sort (λ (x : ℕ). x) _ c.sort_unstable-3.ensures.sorted;
      cuts = sym done.3;
    }
