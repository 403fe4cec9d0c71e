-- What is shown of the image of a run is its newest text.
use Rattle.std.proofs.Common.{◌≡◌, ℕ, zero, suc, ◌+◌, ◌*◌, ◌<◌, ◌≤◌, inl, inr, List, ◌++◌, length, Some, refl, sym, ap, subst, ◌∙◌, arith}
use Rattle.std.specs.Prelude.{◌⊎◌, Result, Ok, Err}
use Rattle.cell_rows.specs.Device.{ArrayState}
use Rattle.row_rules.specs.{Rows.newest, declared.Row.Row}
use Rattle.rotation_reports.specs.Rows.{rows_from}
use Rattle.module_shape.specs.{Limits.{IsSmall, total_of}, declared.raw.RawShape.RawShape}
use Rattle.right_runs.specs.Ends.{BankEnd}
use Rattle.pcm_image.specs.{Saved.{Saved, total_in}, Spelling.image_bytes, Standing.stands_for, declared.ImageFault.ImageFault}
use Rattle.pcm_image.proofs.Whole.{image_again, size-is}
use Rattle.right_images.specs.SavesRun.{AreRows, AreRowsTo, SavesRun}
use Rattle.image_laws.specs.Sizes.{ShortImageLaw}
use Rattle.command_line.specs.{declared.job.Print.Print, declared.job.Print.TheVariants.Image, declared.job.RunJob.RunJob}
use Rattle.program_calls.specs.Calls.{Gets, GetsPart, SinkChange, SourceChange}
use Rattle.pcm_top.specs.{Calls.Deed, Images.senses_for, Reading.trace_room, Rows.rows_of, RunText.IsRunText, Running.RunIsWritten}
use Rattle.pcm_top.specs.{Showing.{IsShowFault, ReadsImage, ShowsImage, ShowsImageInPart, shown_header, shown_of, shown_row, shown_text}, Statuses.{IsImageStatus, IsShowStatus}}
use Rattle.pcm_top.{specs.declared.fault.Fault.Fault, specs.declared.run.Done.Done, specs.declared.run.Done.TheVariants.Whole, proofs.Deciding.{more-go, reads-told}}
use Rattle.pcm_top.specs.declared.fault.Fault.TheVariants as fault
use Rattle.program_laws.specs.ShownRuns.{IsShown, ShownLaw, ShowsAs, newest_text}

same-rows : (f g : ℕ → List ℕ) (n : ℕ) → ((l : ℕ) → l < n → f l ≡ g l) → rows_from (shown_row f) 0 n ≡ rows_from (shown_row g) 0 n
same-rows f g zero same = refl
same-rows f g (suc n) same =
    ap (λ t. t ++ shown_row f (0 + n)) (same-rows f g n (λ l lt. same l (omega (arith, lt))))
    ∙ ap (λ bytes. rows_from (shown_row g) 0 n ++ shown_row (λ l. bytes) (0 + n)) (same (0 + n) (omega arith))

shown-is : {n m : ℕ} (e : ℕ) (raw : RawShape) (seed : ℕ) (rows : List (Row n)) (array : ArrayState n m) (ends : ℕ → BankEnd) (s : Saved n m)
    → SavesRun e raw seed rows array ends s → shown_text e s ≡ newest_text raw rows
shown-is e raw seed rows array ends s saves =
    let total : total_in s.head ≡ total_of raw = ap (λ h. h.banks * h.regions * h.lines) saves.head in
    ap (λ k. shown_header ++ rows_from (shown_row (stands_for e s)) 0 k) total
    ∙ ap (λ t. shown_header ++ t) (same-rows (stands_for e s) (newest rows) (total_of raw) (λ l lt. saves.stands l lt))

-- ---- what the bytes show

shown-narrow : (raw : RawShape) (seed : ℕ) (rows : List (Row 64)) (array : ArrayState 64 8) (ends : ℕ → BankEnd) (s : Saved 64 8)
    → IsSmall raw → AreRows array → SavesRun 6 raw seed rows array ends s → shown_of (image_bytes s) ≡ Ok (newest_text raw rows)
unfolding shown_of
shown-narrow raw seed rows array ends s small are saves =
    let size = size-is 64 8 s refl (omega arith) in
    let read = image_again 64 8 refl (omega arith) refl s (saves.right small are) in
    rw (size, read) (ap (λ t. Ok t) (shown-is 6 raw seed rows array ends s saves))

shown-wide : (raw : RawShape) (seed : ℕ) (rows : List (Row 128)) (array : ArrayState 128 16) (ends : ℕ → BankEnd) (s : Saved 128 16)
    → IsSmall raw → AreRows array → SavesRun 8 raw seed rows array ends s → shown_of (image_bytes s) ≡ Ok (newest_text raw rows)
unfolding shown_of
shown-wide raw seed rows array ends s small are saves =
    let size = size-is 128 16 s refl (omega arith) in
    let read = image_again 128 16 refl (omega arith) refl s (saves.right small are) in
    rw (size, read) (ap (λ t. Ok t) (shown-is 8 raw seed rows array ends s saves))

-- ---- what `show` makes of them

-- bytes that show a text, each of which `show` may read, are shown as that
shows-as : (bytes text : List ℕ) → shown_of bytes ≡ Ok text → length bytes ≤ trace_room 64 → ShowsAs bytes text
shows-as bytes text shown fits = record { done = did; part = did_part; cause = caused; status = status_is }
  where
    -- what was read shows it
    same-text : (s : SourceChange) (found : List ℕ) → s.left_before ≡ Some bytes → (reads : ReadsImage s found) → found ≡ text
    same-text s found told reads =
        let same = reads-told 64 s bytes reads.bytes told reads.whole in
        let both : ◌≡◌ {A = Result (List ℕ) ImageFault} (Ok found) (Ok text) = sym reads.shown ∙ ap shown_of same ∙ shown in
        cc

    did : (deed : Deed) (done : Done) → deed.source.left_before ≡ Some bytes → ShowsImage deed.source deed.out × (done ≡ Whole) → Gets deed.out text × (done ≡ Whole)
    did deed done told shows = (subst (λ found. Gets deed.out found) (same-text deed.source shows.0.0 told shows.0.1) shows.0.2, shows.1)

    did_part : (deed : Deed) → deed.source.left_before ≡ Some bytes → ShowsImageInPart deed.source deed.out → GetsPart deed.out text
    did_part deed told shows = subst (λ found. GetsPart deed.out found) (same-text deed.source shows.0 told shows.1) shows.2

    caused : (s : SourceChange) (one : Fault) → s.left_before ≡ Some bytes → IsShowFault one s → (one ≡ fault.Read) ⊎ (one ≡ fault.NoMemory)
    caused s fault.Read told cause = inl refl
    caused s fault.NoMemory told cause = inr refl
    caused s fault.Usage told cause = absurd cause
    caused s fault.Write told cause = absurd cause
    caused s (fault.Trace f) told cause = absurd cause
    caused s (fault.Results row) told cause = absurd cause
    caused s (fault.Image f) told cause =
        let same = reads-told 64 s bytes cause.0 told cause.1 in
        let both : ◌≡◌ {A = Result (List ℕ) ImageFault} (Err f) (Ok text) = sym cause.2 ∙ ap shown_of same ∙ shown in
        absurd (cc)
    caused s fault.TooLong told more =
        let size = more-go s.left_before s.left_now bytes more.1.0 told more.1.1.first in
        absurd (omega (arith, size, more.1.2, fits))

    status_is : (status : ℕ) → IsShowStatus bytes status → status ≡ 0
    status_is status (inl over) = absurd (omega (arith, over.0, fits))
    status_is status (inr within) = subst (λ (one : Result (List ℕ) ImageFault). IsImageStatus one status) shown within.1

-- each line of an array was sensed for its image, and so each has the bytes of a line
rows-are : {n m : ℕ} (e : ℕ) (job : RunJob) (s : SourceChange) (array : ArrayState n m) (out : SinkChange) (done : Done)
    → RunIsWritten n m e job s array out done → job.print ≡ Image → AreRows array
rows-are e job s array out done written is =
    subst (λ count. AreRowsTo count array) (written.sensed ∙ ap (λ print. senses_for print array.lines) is) written.left.rows

module _ (short : ShortImageLaw) where
  narrow : IsShown 64 8 6
  narrow job s array out done written is =
      let Of : Print → Type 0 = λ p. IsRunText job.shape job.seed 6 written.run.events written.run.outcomes written.run.ends array p written.text in
      let image = subst Of is written.is_text in
      let are = rows-are 6 job s array out done written is in
      let size = short 64 8 image.0 (omega arith) (omega arith) (image.2.right image.3 are) in
      shows-as written.text (newest_text job.shape (rows_of written.run.events written.run.outcomes))
      (ap shown_of image.4 ∙ shown-narrow job.shape job.seed (rows_of written.run.events written.run.outcomes) array written.run.ends image.0 image.3 are image.2)
      (omega (arith, size, ap length image.4))

  wide : IsShown 128 16 8
  wide job s array out done written is =
      let Of : Print → Type 0 = λ p. IsRunText job.shape job.seed 8 written.run.events written.run.outcomes written.run.ends array p written.text in
      let image = subst Of is written.is_text in
      let are = rows-are 8 job s array out done written is in
      let size = short 128 16 image.0 (omega arith) (omega arith) (image.2.right image.3 are) in
      shows-as written.text (newest_text job.shape (rows_of written.run.events written.run.outcomes))
      (ap shown_of image.4 ∙ shown-wide job.shape job.seed (rows_of written.run.events written.run.outcomes) array written.run.ends image.0 image.3 are image.2)
      (omega (arith, size, ap length image.4))

  pub shown-law : ShownLaw
  shown-law = (narrow, wide)
