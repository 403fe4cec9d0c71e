-- From options to a module that begins.
use Rattle.std.proofs.Common.{◌≡◌, Bool, false, ap, inr, subst}
use Rattle.std.specs.Prelude.{Option, Some, None, is_some, Result, Ok, Err}
use Rattle.cell_rows.specs.declared.array.Wear.{Wear}
use Rattle.module_shape.specs.{Limits.accepted_by, declared.raw.BadShape.BadShape, declared.raw.Field.Field, declared.raw.RawShape.RawShape}
use Rattle.pcm_c.specs.{Answers.status_number, Opening.{BeginsWith, IsChosen, OpenTold, OpenToldAt, OpensAt, bad_option, open_refusal, raw_of}, declared.held.Held.Held}
use Rattle.pcm_c.specs.{declared.options.BadOption.BadOption, declared.options.Chosen.Chosen, declared.options.ModuleOptions.ModuleOptions, declared.status.Status.Status}

-- the sizes in a result, or these
abbrev shape-in : RawShape → Result RawShape BadShape → RawShape
shape-in raw (Ok shape) = shape
shape-in raw (Err bad) = raw

-- sizes that were accepted are those that were asked for
pub shape-asked : (shape raw : RawShape) (fault : Option Field) → Ok shape ≡ accepted_by raw fault → shape ≡ raw
shape-asked shape raw None is = ap (shape-in raw) is
shape-asked shape raw (Some field) is = ap (shape-in raw) is

-- what begins as it was chosen by options was opened by them
pub opens : (o : ModuleOptions) (chosen : Chosen) (held : Held) → IsChosen o chosen → BeginsWith chosen.is_wide chosen.shape chosen.wear held → OpensAt o (Some held)
opens o chosen held is begins =
    let right = is.right in
    let sized = subst (λ (is_wide : Bool). BeginsWith is_wide chosen.shape chosen.wear held) is.wide begins in
    let shaped = subst (λ (raw : RawShape). BeginsWith right.is_wide raw chosen.wear held) is.shape sized in
    (right, subst (λ (wear : Wear). BeginsWith right.is_wide (raw_of o right.policy right.home) wear held) is.wear shaped)

-- what a call to open answers, where none was opened
told-why : (option : Option BadOption) (status : Status) → status ≡ open_refusal option → OpenTold option (status_number status)
told-why None status why = inr (ap status_number why)
told-why (Some option) status why = ap status_number why

pub told-refused : (o : ModuleOptions) (handle : Option Held) (status : Status) → false ≡ is_some handle → status ≡ open_refusal (bad_option o) → OpenToldAt o handle (status_number status)
told-refused o (Some held) status is why = absurd (cc is)
told-refused o None status is why = told-why (bad_option o) status why
