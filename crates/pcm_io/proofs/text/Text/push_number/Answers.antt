use Rattle.std.proofs.Common.{◌≡◌, ◌++◌, length, take, decimal, ap, ◌∙◌, arith}
use Rattle.std.proofs.lemmas.List.{with_items_is}
use Rattle.pcm_io.{specs.Reserved.appended, proofs.Places.{put-behind, with-bytes}}
use Rattle.pcm_io.proofs.text.Text.push_number.Goals as goal

pub returns-clause-after : goal.returns-clause-after
returns-clause-after c =
    let buf = c.write_digits.new.buf in
    let old = c.self.inside.buffer in
    let value : c.deref_mut.result.now ≡ old.items = c.deref_mut.ensures.value in
    let long : length buf ≡ old.len = search in
    let same : length buf ≡ length old.items = search in
    let bytes = put-behind c.self.inside.at c.write_digits.result buf c.deref_mut.result.now (decimal c.args.number) _
    (omega (arith, c.write_digits.ensures.start, c.digits_in.ensures)) c.write_digits.ensures.written c.write_digits.ensures.before in
    with-bytes _ _ _ _ _ _ (with_items_is old buf long) c.digits_in.ensures (bytes ∙ ap (λ l. take c.self.inside.at l ++ decimal c.args.number) value) same
    ∙ ap (λ t. appended t (decimal c.args.number)) c.self.view_is
