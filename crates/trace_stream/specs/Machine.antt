-- `csv`'s machine with its default settings, by the states and the actions of this crate.
use Rattle.std.specs.Prelude.{Bool, true, false}
use Rattle.csv.specs.declared.parser.State.{State}
use Rattle.csv.specs.declared.parser.State.TheVariants as st
use Rattle.csv.specs.declared.parser.Action as csv
use Rattle.csv.specs.declared.parser.Action.TheVariants as act
use Rattle.trace_stream.specs.{declared.machine.ByteMove.ByteMove, declared.machine.Place.Place}
use Rattle.trace_stream.specs.declared.machine.Place.TheVariants as place
use Rattle.trace_stream.specs.declared.machine.ByteMove.TheVariants as move

-- `csv`'s name of a place in a record
abbrev pub state_of : Place → State
state_of place.StartRecord = st.StartRecord
state_of place.StartField = st.StartField
state_of place.InField = st.InField
state_of place.InQuoted = st.InQuoted
state_of place.AfterQuote = st.AfterQuote
state_of place.AfterCr = st.AfterCr

-- `csv`'s name of what a byte does
abbrev pub action_of : ByteMove → csv.Action
action_of move.Skip = act.Skip
action_of move.Keep = act.Copy
action_of move.EndField = act.EndField
action_of move.EndRecord = act.EndRecord

-- a place and what the byte before it did, as `csv` names them
abbrev pub moved : Place × ByteMove → State × csv.Action
moved m = (state_of m.0, action_of m.1)

-- whether a plain byte only joins the field at hand
abbrev pub takes_plain : State → Bool
takes_plain st.StartRecord = true
takes_plain st.StartField = true
takes_plain st.InField = true
takes_plain st.AfterCr = true
takes_plain st.InQuoted = false
takes_plain st.AfterQuote = false
takes_plain st.InEscape = false
takes_plain st.InComment = false
