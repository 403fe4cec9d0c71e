-- What `show` writes of a saved module, and why it writes nothing.
use Rattle.std.specs.Prelude.{◌≡◌, ℕ, ◌==◌, if◌then◌else◌, List, [], ◌∷◌, ◌++◌, codes, decimal, Result, Ok, Err}
use Rattle.hex.specs.Hex.{encode_lower}
use Rattle.rotation_reports.specs.Rows.{row_of, rows_from}
use Rattle.pcm_image.specs.{Reading.{◌>>=◌, image_of, size_of}, Saved.{Saved, total_in}, Standing.stands_for, declared.ImageFault.ImageFault}
use Rattle.program_calls.specs.Calls.{Gets, GetsPart, SinkChange, SourceChange}
use Rattle.pcm_top.specs.{Reading.{ReadsWhole, NeverFails, SourceFails, TakesMore, TakesSome}, declared.fault.Fault.Fault}
use Rattle.pcm_top.specs.declared.fault.Fault.TheVariants.{Usage, Trace, Results, Image, Read, Write, TooLong, NoMemory}

-- the first line
abbrev pub shown_header : List ℕ
shown_header = codes "line,data\n"

-- the row of a line: its number and its bytes
abbrev pub shown_row : (ℕ → List ℕ) → ℕ → List ℕ
shown_row bytes_of line = row_of (decimal line ∷ encode_lower (bytes_of line) ∷ [])

-- the text of a saved module whose lines have e error-correcting pointers: a row for each line, with its
-- newest bytes
abbrev pub shown_text : {B M : ℕ} → ℕ → Saved B M → List ℕ
shown_text e saved = shown_header ++ rows_from (shown_row (stands_for e saved)) 0 (total_in saved.head)

-- reading it gives that
abbrev pub text_with : {B M : ℕ} → ℕ → Saved B M → Result (List ℕ) ImageFault
text_with e saved = Ok (shown_text e saved)

-- the text of an image's bytes over lines of B bytes, or the first field that fails
abbrev pub shown_as : (B M e : ℕ) → List ℕ → Result (List ℕ) ImageFault
shown_as B M e bytes = image_of B M bytes >>= text_with e

-- lines of 64 bytes have 8 check bytes and 6 pointers, those of 128 have 16 and 8
abbrev pub shown_with : List ℕ → ℕ → Result (List ℕ) ImageFault
shown_with bytes size = if size == 64 then shown_as 64 8 6 bytes else shown_as 128 16 8 bytes

-- what is shown of an image's bytes, whatever the size of its lines
unfoldable pub shown_of : List ℕ → Result (List ℕ) ImageFault
shown_of bytes = size_of bytes >>= shown_with bytes

-- the source was read to its end, its bytes are an image, and this is its text
pub record ReadsImage (s : SourceChange) (text : List ℕ) : Type 0 where
  pub bytes : List ℕ
  pub whole : ReadsWhole 64 s bytes
  pub shown : shown_of bytes ≡ Ok text

-- there is a text, and exactly it was written
abbrev pub ShowsText : Result (List ℕ) ImageFault → SinkChange → Type 0
ShowsText shown out = (text : List ℕ) × (shown ≡ Ok text) × Gets out text

-- there is a text, and first bytes of it were written
abbrev pub ShowsTextInPart : Result (List ℕ) ImageFault → SinkChange → Type 0
ShowsTextInPart shown out = (text : List ℕ) × (shown ≡ Ok text) × GetsPart out text

-- exactly the text of the image was written
abbrev pub ShowsImage : SourceChange → SinkChange → Type 0
ShowsImage s out = (text : List ℕ) × ReadsImage s text × Gets out text

-- first bytes of the text of the image were written
abbrev pub ShowsImageInPart : SourceChange → SinkChange → Type 0
ShowsImageInPart s out = (text : List ℕ) × ReadsImage s text × GetsPart out text

-- why bytes give no text: a field fails, or memory runs out
abbrev pub IsImageFault : Fault → Result (List ℕ) ImageFault → Type 0
IsImageFault (Image f) shown = shown ≡ Err f
IsImageFault NoMemory shown = Unit {0}
IsImageFault Usage shown = ⊥
IsImageFault (Trace f) shown = ⊥
IsImageFault (Results row) shown = ⊥
IsImageFault Read shown = ⊥
IsImageFault Write shown = ⊥
IsImageFault TooLong shown = ⊥

-- why nothing is shown: the source was read to its end and a field of its bytes fails; or it failed; or it
-- gave too many bytes; or memory ran out, and no call failed
abbrev pub IsShowFault : Fault → SourceChange → Type 0
IsShowFault (Image f) s = (bytes : List ℕ) × ReadsWhole 64 s bytes × (shown_of bytes ≡ Err f)
IsShowFault Read s = SourceFails s × TakesSome 64 s
IsShowFault TooLong s = NeverFails s × TakesMore 64 s
IsShowFault NoMemory s = NeverFails s × TakesSome 64 s
IsShowFault Usage s = ⊥
IsShowFault (Trace f) s = ⊥
IsShowFault (Results row) s = ⊥
IsShowFault Write s = ⊥
