-- One text has one stamp, so counts that are too great for the text are too great for what was read
use Rattle.std.proofs.Common.{◌≡◌, IsTrue, rules, inl, refl, sym, ◌∙◌, arith}
use Rattle.table_text.specs.Reading.{saved_state}
use Rattle.table_load.proofs.Refused.{no-table}
use Rattle.foreign_numbers.specs.declared.status.TheConstants.{BAD_TEXT, NO_MEMORY, OUT_OF_RANGE}
use Rattle.foreign_calls.proofs.saved_history.resumed_from.Goals as goal

pub returns-in-Ok-boxed_resume-clause-few : goal.returns-in-Ok-boxed_resume-clause-few
returns-in-Ok-boxed_resume-clause-few c = (λ told.
    let saved = c.in-Ok.saved in
    let read = c.in-Ok.ensures in
    let words = c.what_fits_is_of_words.ensures told.1 told.3 in
    let same = c.texts_tell_states.ensures saved.stamp told.0 (saved_state saved) told.1 read.words.0 told.2 read.words.1 words (sym read.text ∙ told.4) in
    let can : IsTrue c.can_resume.result = search rules in
    absurd (omega (arith, c.can_resume.ensures.0 can, told.5, same.0)))

pub returns-in-Err-table_of-clause-refused : goal.returns-in-Err-table_of-clause-refused
returns-in-Err-table_of-clause-refused c = λ bad.
    no-table c.texts_tell_states.ensures c.what_fits_is_of_words.ensures c.args.text.now c.in-Ok.saved c.in-Ok.ensures.text c.in-Ok.ensures.words
    (c.in-Err-table_of.ensures.refused (λ none. let z : BAD_TEXT ≡ NO_MEMORY = sym bad ∙ c.put_fault-in-Err-table_of.ensures.no_memory.1 none in omega (arith, z)))

pub returns-then-not-can_resume-clause-too_many : goal.returns-then-not-can_resume-clause-too_many
returns-then-not-can_resume-clause-too_many c = λ told. inl refl

pub returns-then-not-can_resume-clause-bad_text : goal.returns-then-not-can_resume-clause-bad_text
returns-then-not-can_resume-clause-bad_text c = λ bad. let z : OUT_OF_RANGE ≡ BAD_TEXT = bad in absurd (omega (arith, z))

pub returns-then-not-can_resume-clause-refused : goal.returns-then-not-can_resume-clause-refused
returns-then-not-can_resume-clause-refused c = λ bad. let z : OUT_OF_RANGE ≡ BAD_TEXT = bad in absurd (omega (arith, z))

pub returns-then-not-can_resume-clause-form : goal.returns-then-not-can_resume-clause-form
returns-then-not-can_resume-clause-form c = λ bad. let z : OUT_OF_RANGE ≡ BAD_TEXT = bad in absurd (omega (arith, z))
