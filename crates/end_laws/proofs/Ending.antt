-- In the end each line's newest bytes are those of the array with those of the queue laid over them.
use Rattle.std.proofs.Common.{refl}
use Rattle.bank_model.specs.Timing.{core}
use Rattle.end_laws.{specs.EndLaws.{EndLaw, end_of}, proofs.Following.still_there_law, proofs.Kept.kept_law, proofs.Leaving.gaps_law, proofs.Queued.queue_law}
use Rattle.end_laws.proofs.Remapped.{remapped_law}

pub end_law : EndLaw
end_law off n m e pace xs bank array sized l idle holds halted = (
  end_of bank.kept (core xs),
  record {
    table = λ slot exists. refl;
    moves = λ region exists. (holds.regions region exists).registers;
    queue = refl;
  },
  record {
    lines = remapped_law n m e (core xs) bank array holds;
    moved = λ region exists. gaps_law off n m e pace xs bank array region sized l idle holds halted;
    queue = queue_law off n m e pace xs bank array sized l idle holds halted;
    kept = λ line exists. kept_law n m e pace xs bank array line l holds exists;
    stored = still_there_law n m e pace xs bank array sized l holds halted;
  },
)
