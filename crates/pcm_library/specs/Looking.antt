-- What is told of a line that is looked at.
use Rattle.std.specs.Prelude.{ℕ, Option}
use Rattle.cell_rows.specs.{Device.ArrayState, Told.wear_told}
use Rattle.pcm_module.specs.State.{ModuleState, stands_in}
use Rattle.pcm_library.specs.{declared.looking.LineWear.LineWear, declared.looking.Standing.Standing}

-- how worn a line of an array is, of whose cells each changed so often
abbrev pub wear_of_line : {n m : ℕ} → ArrayState n m → (changes : ℕ → Option (ℕ → ℕ)) → (line : ℕ) → LineWear
wear_of_line array changes line = record {
  pulses = (array.line line).pulses;
  cells = wear_told (array.line line) (changes line);
  energy = array.energy line;
}

-- where a line of a module stands in that array, and how worn it is there
abbrev pub standing_of : {n m e : ℕ} → ModuleState n m e → ArrayState n m → (changes : ℕ → Option (ℕ → ℕ)) → (line : ℕ) → Standing
standing_of module_ array changes line = record {
  place = stands_in module_ line;
  wear = wear_of_line array changes (stands_in module_ line);
}
