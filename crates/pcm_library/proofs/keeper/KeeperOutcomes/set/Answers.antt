use Rattle.std.proofs.Common.{◌≡◌, List, ℕ, [], ◌∷◌, ◌++◌, ◌+◌, length, ◌∙◌, ap, sym, append_assoc, refl, arith}
use Rattle.std.proofs.lemmas.List.{length_push}
use Rattle.result_rows.{specs.declared.Outcome.Outcome, proofs.Sizes.outcome_fits}
use Rattle.row_printer.{specs.Telling.outcomes_in, proofs.Telling.{heard-one, outcomes-more}}
use Rattle.pcm_library.{specs.Keeping.{kept_of, kept_pairs}, specs.declared.keeper.KeptOutcome.KeptOutcome, proofs.Counting.some-untold}
use Rattle.ghost_list.specs.Items.{items}
use Rattle.pcm_library.proofs.{Keeping.{pairs-more, table-set, tells-next}, Sizes.kept_fits}
use Rattle.pcm_library.proofs.keeper.KeeperOutcomes.set.Goals as goal

pub keep-requires : goal.keep-requires
keep-requires g c =
    let exists = rw (← c.self.view_is) at c.requires.exists in
    let unset = rw (← c.self.view_is) at c.requires.unset in
    let next = tells-next c.self.inside.rows (outcomes_in (items c.self.inside.told)) c.args.row c.args.outcome c.self.invariant.once exists unset c.requires.told in
    let some = some-untold c.self.inside.rows c.self.inside.untold (outcomes_in (items c.self.inside.told)) (c.args.row, c.args.outcome) c.self.invariant.counted next in
    let few = c.self.invariant.few in
    (kept_fits g.row.B few, (outcome_fits g.row.B few, (few, omega (arith, some, c.self.invariant.fits, c.self.inside.waiting.ok.0))))

pub overflow_sub-self : goal.overflow_sub-self
overflow_sub-self g c =
    let exists = rw (← c.self.view_is) at c.requires.exists in
    let unset = rw (← c.self.view_is) at c.requires.unset in
    some-untold c.self.inside.rows c.self.inside.untold (outcomes_in (items c.self.inside.told)) (c.args.row, c.args.outcome) c.self.invariant.counted
    (tells-next c.self.inside.rows (outcomes_in (items c.self.inside.told)) c.args.row c.args.outcome c.self.invariant.once exists unset c.requires.told)

pub invariant_of-self : goal.invariant_of-self
invariant_of-self g c =
    let exists = rw (← c.self.view_is) at c.requires.exists in
    let unset = rw (← c.self.view_is) at c.requires.unset in
    let told = items c.self.inside.told in
    let one : KeptOutcome g.row.B = kept_of c.args.row c.args.outcome in
    let next = tells-next c.self.inside.rows (outcomes_in told) c.args.row c.args.outcome c.self.invariant.once exists unset c.requires.told in
    let some = some-untold c.self.inside.rows c.self.inside.untold (outcomes_in told) (c.args.row, c.args.outcome) c.self.invariant.counted next in
    let size : length (outcomes_in told ++ (c.args.row, c.args.outcome) ∷ []) ≡ length (outcomes_in told) + 1 = length_push (outcomes_in told) (c.args.row, c.args.outcome) in
    let waits : length (c.self.inside.waiting.items ++ one ∷ []) ≡ length c.self.inside.waiting.items + 1 = length_push c.self.inside.waiting.items one in
    let taken : List (ℕ × Outcome g.row.B) = kept_pairs (items c.self.inside.taken) in
    let waiting : List (ℕ × Outcome g.row.B) = kept_pairs c.self.inside.waiting.items in
    rw (c.and.ensures.items, c.keep.ensures.items) (record {
      few = c.self.invariant.few;
      once = rw (outcomes-more told c.args.row c.args.outcome) next;
      counted = rw (outcomes-more told c.args.row c.args.outcome) (omega (arith, size, some, c.self.invariant.counted));
      fits = omega (arith, waits, some, c.self.invariant.fits, c.keep.ensures.capacity);
      least = omega (arith, c.self.invariant.least, c.keep.ensures.capacity);
      whole =
          outcomes-more told c.args.row c.args.outcome ∙ ap (λ t. t ++ (c.args.row, c.args.outcome) ∷ []) c.self.invariant.whole ∙ append_assoc taken waiting ((c.args.row, c.args.outcome) ∷ [])
          ∙ ap (λ t. taken ++ t) (sym (pairs-more c.self.inside.waiting.items (one ∷ [])));
    })

pub returns-clause-table : goal.returns-clause-table
returns-clause-table g c = rw (c.and.ensures.items, ← c.self.view_is) (table-set c.self.inside.rows (items c.self.inside.told) c.args.row c.args.outcome)

pub returns-clause-goes_on : goal.returns-clause-goes_on
returns-clause-goes_on g c =
    rw (← c.self.view_is) (record {
      prints = record {
        added = (c.args.row, c.args.outcome) ∷ [];
        told = c.and.ensures.items;
        snapshots = refl;
        rows = refl;
        prints = refl;
        heard = heard-one c.self.inside.heard;
        printing = λ before first h. h;
      };
      taken = refl;
      room = refl;
    })
