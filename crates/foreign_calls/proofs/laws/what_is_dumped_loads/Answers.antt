use Rattle.std.proofs.Common.{sym, ◌∙◌}
use Rattle.foreign_calls.proofs.laws.what_is_dumped_loads.Goals as goal

pub returns : goal.returns
returns c = λ stamp state text can is. record {
  taken = λ none. none stamp state can.word can.held can.table can.below is;
  same = λ stamp' state' word' words' is'.
      c.texts_tell_states.ensures stamp' stamp state' state word' can.word words' (c.what_fits_is_of_words.ensures state can.held) (sym is' ∙ is);
}
