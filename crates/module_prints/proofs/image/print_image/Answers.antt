use Rattle.std.proofs.Common.{◌≡◌, ◌∙◌, subst, rules}
use Rattle.image_text.specs.Sensing.{SensesRows}
use Rattle.pcm_image.specs.Spelling.{image_bytes}
use Rattle.right_images.specs.Saving.{first_rows, saved_of}
use Rattle.text_printer.proofs.Ending.{on_err, on_ok, whole-ok, whole-part}
use Rattle.module_prints.{specs.Images.kept_in, proofs.Whole.{image-all, image-printed, image-rest, rest_of}}
use Rattle.module_prints.proofs.image.print_image.Goals as goal

pub returns : goal.returns
returns g c =
    let w = g.K.Sink.written in
    let f = g.K.Sink.faults in
    let array = g.A.CellArray.state c.args.array.now in
    let was = w c.args.out.now in
    let since = f c.args.out.now in
    let raw = c.args.pcm.now.shape in
    let keeps = kept_in c.args.pcm.now in
    let rows = c.print_rows.ensures in
    let ends = c.finish.ensures in
    let some = image_bytes (first_rows rows.count (saved_of raw c.args.seed keeps array)) in
    let whole = image_bytes (saved_of raw c.args.seed keeps array) in
    let had = image-printed g.row.B c.shape.result.now raw c.args.seed keeps array c.shape.ensures.shape w f _ _ _ _ was since rows.count rows.exist
    c.new-printer.ensures.printed c.print_head.ensures c.print_banks.ensures rows.prints in
    let name : c.print_rows.new.printer.out.ghost_name ≡ c.new-printer.result.out.ghost_name = rows.prints.out ∙ c.print_banks.ensures.out ∙ c.print_head.ensures.out in
    let back : c.finish.new.self.1.0 ≡ c.out-1.given.0 = search (rules, name) in
    rw (← back) (record {
      ok = whole-ok w f _ _ c.finish.result ends was since some whole had
          (λ none. image-all g.row.B c.shape.result.now raw c.args.seed keeps array c.shape.ensures.shape rows.count (rows.all none));
      prefix = whole-part w f _ _ c.finish.result ends was since some whole had (rest_of array rows.count)
          (image-rest g.row.B c.shape.result.now raw c.args.seed keeps array c.shape.ensures.shape rows.count rows.exist);
      part = on_err c.finish.result _ _ (ends.part was since some had) (λ part. record { count = rows.count; rows = rows.senses.rows; part = part });
      sensed = (rows.count, rows.exist, rows.senses);
      all = on_ok c.finish.result _ _ ends.first (λ none. subst (λ count. SensesRows count array (g.A.CellArray.state c.print_rows.new.array)) (rows.all none) rows.senses);
      fault = ends.fault was since some had;
      never_falls = ends.never_falls was since some had;
    })
