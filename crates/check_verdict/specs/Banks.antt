-- What the code keeps of a bank, as the laws know it.
use Rattle.check_verdict.specs.{States.Facts, declared.bank.CheckedBank.CheckedBank}

abbrev pub facts_of : CheckedBank → Facts
facts_of b = record {
  members = b.members.items;
  waits = b.waits.items;
  lost = b.lost;
  last_answer = b.last_answer;
  last_store = b.last_store;
  worn = b.worn;
  first = b.first;
  second = b.second;
  third = b.third;
  fourth = b.fourth;
}
