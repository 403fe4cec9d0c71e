-- Behind no row of a stream anything is lost.
use Rattle.std.proofs.Common.{◌≡◌, ℕ, List, [], ◌∷◌, ◌++◌, length, refl, sym, ap, subst, ◌∙◌, append_assoc}
use Rattle.std.proofs.lemmas.List.{append-nil}
use Rattle.bank_model.specs.Timing.{TimedEvent}
use Rattle.module_shape.specs.{Limits.IsShape, declared.raw.RawShape.RawShape}
use Rattle.clock_laws.specs.Ending.{LeavingLaw}
use Rattle.run_laws.specs.FinishedLaws.{LinesLaw}
use Rattle.read_moments.specs.Reads.{ReadsLaw}
use Rattle.row_printer.specs.{Printing.table_of, Telling.became, declared.told.Told.Told}
use Rattle.trace_stream.specs.{Asked.events_in, declared.asked.Asked.Asked}
use Rattle.row_stream.specs.Serving.{AreKnown, TellsAlong, lines_of}
use Rattle.moment_laws.specs.{Banks.MeanwhileLaw, Moments.{AlongLaw, MomentLaw, WasMoment}, Streams.{BegunStreamLaw, WholeStreamLaw}}
use Rattle.moment_laws.proofs.Moment.{by-history, by-rows, all-backlogs, all-end, all-queued, all-served}

pub moment_law : LinesLaw → LeavingLaw → ReadsLaw → MeanwhileLaw → MomentLaw
moment_law lines leaving reads meanwhile n m e raw seed events h module_ array outcomes is served =
    let shape : IsShape module_.shape = subst IsShape (sym served.shape) is in
    record {
      accepted = λ line lt. by-history lines events h module_ array outcomes shape served.size served.replays line lt;
      stands = λ line lt. by-rows lines events h module_ array outcomes shape served.size served.replays line lt;
      queued = all-queued lines events h module_ array outcomes shape served.size served.replays;
      reads = all-served lines events h module_ array outcomes shape served.size served.replays reads;
      ends = all-end lines events h module_ array outcomes shape served.size served.replays leaving meanwhile;
      backlogs = all-backlogs lines events h module_ array outcomes shape served.size served.replays;
    }

module _ {n m : ℕ} (e : ℕ) (raw : RawShape) (seed : ℕ) where
  -- a moment of a stream is one of a stream that went on
  pub went_on : (events : List _) (whole more added : ℕ → List (TimedEvent n m)) (told all rest : List (Told n))
      → ((bank : ℕ) → more bank ≡ added bank ++ whole bank) → all ≡ told ++ rest
      → WasMoment e raw seed events whole told → WasMoment e raw seed events more all
  went_on events whole more added told all rest longer further was = record {
    since = λ bank. added bank ++ was.since bank;
    history = was.history;
    part = λ bank.
        longer bank ∙ ap (λ (xs : List (TimedEvent n m)). added bank ++ xs) (was.part bank)
        ∙ sym (append_assoc (added bank) (was.since bank) (was.history bank));
    said = was.said;
    rest = was.rest ++ rest;
    all = further ∙ ap (λ (told : List (Told n)). told ++ rest) was.all ∙ append_assoc was.said was.rest rest;
    module_ = was.module_;
    array = was.array;
    served = was.served;
    nothing_lost = was.nothing_lost;
  }

  module _ (moment : MomentLaw) (is : IsShape raw) where
    known : (row : Asked n) (before : List (Asked n)) (h : ℕ → List (TimedEvent n m)) (told : List (Told n))
        → AreKnown e raw seed row before h told → WasMoment e raw seed (events_in (row ∷ before)) h told
    known row before h told are = record {
      since = λ bank. [];
      history = h;
      part = λ bank. refl;
      said = told;
      rest = [];
      all = sym (append-nil told);
      module_ = are.module_;
      array = are.array;
      served = are.served;
      nothing_lost =
          moment n m e raw seed (events_in (row ∷ before)) h are.module_ are.array (table_of (length (events_in (row ∷ before))) told) is are.served;
    }

    pub each_moment : (row : Asked n) (later before : List (Asked n)) (h : ℕ → List (TimedEvent n m)) (told : List (Told n))
        → TellsAlong e raw seed (later ++ row ∷ before) h told → WasMoment e raw seed (events_in (row ∷ before)) h told
    each_moment row [] before h told along = known row before h told along.7
    each_moment row (last ∷ later) before h told along =
        went_on (events_in (row ∷ before)) along.0 h along.3 along.1 told (became along.5 ++ lines_of last along.7.module_ along.7.array)
        (λ bank. ap (λ (h : ℕ → List (TimedEvent n m)). h bank) along.4) (along.8 ∙ append_assoc along.1 (became along.5) (lines_of last along.7.module_ along.7.array))
        (each_moment row later before along.0 along.1 along.2)

pub along_law : MomentLaw → AlongLaw
along_law moment n m e raw seed asked h told is along row later before same =
    each_moment e raw seed moment is row later before h told
    (subst (λ (asked : List (Asked n)). TellsAlong e raw seed asked h told) same along)

pub whole_law : AlongLaw → {S : Type 0} → WholeStreamLaw S
whole_law along n m e job source array told served row later before same =
    let ended = served.ended in
    went_on e job.shape job.seed (events_in (row ∷ before)) ended.history ended.history (λ bank. []) ended.said told (became ended.rest) (λ bank. refl) ended.all
    (along n m e job.shape job.seed _ ended.history ended.said served.lawful.shape ended.along row later before same)

pub begun_law : AlongLaw → {S : Type 0} → BegunStreamLaw S
begun_law along n m e job source array asked told served =
    along n m e job.shape job.seed asked served.history told served.lawful.shape served.along
