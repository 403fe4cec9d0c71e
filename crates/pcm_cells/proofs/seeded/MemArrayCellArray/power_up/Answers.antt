use Rattle.std.proofs.Common.{◌≡◌, ◌≤◌, arith, ◌∙◌, refl, sym, ap, subst, length, Option, Some, None}
use Rattle.std.{specs.Prelude.{IfSome, is_some}, proofs.lemmas.List.length-replicate}
use Rattle.cell_rows.specs.declared.array.Wear.{Wear}
use Rattle.pcm_cells.{specs.Endurance.IsInRange, specs.Seeded.{SeededArray, bounds_of}, proofs.EnduranceLemmas.{bounded_none, bounded_new}}
use Rattle.pcm_cells.proofs.{EnergyLemmas.{counts-as, counts-cleared, counts-renewed, renewed-none}, SeededLemmas.drawn_is_blank}
use Rattle.pcm_cells.proofs.seeded.MemArrayCellArray.power_up.Goals as goal
use Rattle.line_pages.{specs.Paging.lines_seen, proofs.PagingLemmas.{lines_size, blank_drawn}}
use Rattle.seeded_lines.specs.Seeded.{LifeLine}

pub returns-clause-ok : goal.returns-clause-ok
returns-clause-ok g c =
    let new = c.in_ok-blank.field-0 in
    record {
      count = lines_size new ∙ ap length c.in_ok-blank.ensures.grown ∙ length-replicate c.args.lines None;
      blank = λ l h. drawn_is_blank new.wear l _ (blank_drawn new c.args.lines new.wear refl c.in_ok-blank.ensures.young c.in_ok-blank.ensures.grown l h);
      tears = refl;
      log = λ senses told. cc;
      wear = ap Some c.in_ok-blank.ensures.wear;
      few = subst (λ (w : Wear). w.misses ≤ 7) (sym c.in_ok-blank.ensures.wear) c.requires.wear.3;
      energy = λ l told low is. renewed-none _ c.in_ok-energies.energies c.args.lines l told c.in_ok-energies.ensures low is;
    }

pub returns-clause-drawn : goal.returns-clause-drawn
returns-clause-drawn g c = blank_drawn c.in_ok-blank.field-0 c.args.lines c.args.wear c.in_ok-blank.ensures.wear c.in_ok-blank.ensures.young c.in_ok-blank.ensures.grown

pub invariant_of-self : goal.invariant_of-self
invariant_of-self g c = (
  c.self.invariant.0,
  c.self.invariant.1,
  record { endures = omega arith; misses = omega arith },
  bounded_none g.row.B g.row.M (bounds_of None),
  counts-cleared c.self.inside.energies c.clear.new.self c.clear.ensures,
)

pub invariant_of-self-2 : goal.invariant_of-self-2
invariant_of-self-2 g c =
    let new = c.in_ok-blank.field-0 in (
      c.self.invariant.0,
      c.self.invariant.1,
      subst (λ (w : Wear). IsInRange (bounds_of (Some w))) (sym c.in_ok-blank.ensures.wear) (record { endures = omega arith; misses = c.requires.wear.3 }),
      bounded_new new.wear (lines_seen new)
          (λ l h.
          blank_drawn new c.args.lines new.wear refl c.in_ok-blank.ensures.young c.in_ok-blank.ensures.grown l
          (omega (arith, h, lines_size new, ap length c.in_ok-blank.ensures.grown, length-replicate {A = Option (LifeLine g.row.B g.row.M)} c.args.lines None))),
      subst (λ lines. IfSome c.in_ok-energies.energies (λ energies. length energies ≡ lines))
          (sym (lines_size new ∙ ap length c.in_ok-blank.ensures.grown ∙ length-replicate {A = Option (LifeLine g.row.B g.row.M)} c.args.lines None))
          (counts-renewed _ c.in_ok-energies.energies c.args.lines c.in_ok-energies.ensures),
    )

pub invariant_of-self-in_err-blank : goal.invariant_of-self-in_err-blank
invariant_of-self-in_err-blank g c = (
  c.self.invariant.0,
  c.self.invariant.1,
  record { endures = omega arith; misses = omega arith },
  bounded_none g.row.B g.row.M (bounds_of None),
  counts-cleared c.self.inside.energies c.clear.new.self c.clear.ensures,
)

-- whether the array counts
pub returns-clause-counts : goal.returns-clause-counts
returns-clause-counts g c =
    counts-as _ c.in_ok-energies.energies _ c.in_ok-energies.ensures ∙ counts-as _ c.clear.new.self _ c.clear.ensures
    ∙ ap (λ (a : SeededArray g.row.B g.row.M). is_some a.energies) c.self.view_is
