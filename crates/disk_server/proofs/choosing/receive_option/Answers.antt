use Rattle.std.proofs.Common.{◌++◌, List, ℕ, refl, inr, arith, subst}
use Rattle.std.proofs.lemmas.Result.{err_from_is_err_and}
use Rattle.pcm_io.{specs.Taking.Takes, proofs.ByteLemmas.Takes-Takes}
use Rattle.nbd_frames.specs.Options.{option_bytes}
use Rattle.disk_server.{specs.declared.phase.SessionPhase.TheVariants.Choosing, proofs.Filling.{amid_before, amid_none, errs}}
use Rattle.disk_server.proofs.choosing.receive_option.Goals as goal

pub returns-in_err-told-clause-none : goal.returns-in_err-told-clause-none
returns-in_err-told-clause-none g c =
    let short = c.in_err-told.ensures.short in
    let ended = c.in_err-told.field-0.0 in
    let header = c.in-Some.header in
    let was = c.args.source.now in
    let now = c.fill.new.source in
    let front = subst (λ (bytes : List ℕ). Takes (g.S.Source.left was) (g.S.Source.left now) (g.S.Source.taken was) (g.S.Source.taken now) bytes)
    c.in-Some.ensures.found c.in_ok-fill.ensures.full in
    errs c.from_residual-in_err-told.result _ ended (err_from_is_err_and c.from_residual-in_err-told.result c.from_residual-in_err-told.ensures.1) (
      option_bytes header ++ short.0,
      Takes-Takes _ _ _ _ _ _ (option_bytes header) short.0 front short.2,
      amid_none ended (Choosing c.args.zeros) (option_bytes header ++ short.0) _ _ _ (omega arith) (inr (header, short.0, c.in-Some.ensures.lawful, refl, short.1))
          (amid_before ended _ _ _ _ c.fill.ensures.never_falls short.3),
    )
