-- What stays of a handle that lends its module.
use Rattle.std.proofs.Common.{◌≡◌, ap, sym, ◌∙◌}
use Rattle.std.specs.Prelude.{Some}
use Rattle.pcm_c.specs.{Lending.with_value, declared.handle.Handle.Handle, declared.held.Held.Held}

-- a handle that holds the module that it held is as it was
pub same-handle : (h : Handle) (held : Held) → h.value ≡ Some held → with_value h held ≡ h
same-handle h held is = ap (λ value. record h { value = value }) (sym is)

-- and so is one whose module was left as it was
pub left-handle : (h : Handle) (held left : Held) → h.value ≡ Some held → left ≡ held → with_value h left ≡ h
left-handle h held left is stays = ap (with_value h) stays ∙ same-handle h held is
