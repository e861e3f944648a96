use Rattle.std.proofs.Common.{◌∙◌, ap, sym, subst}
use Rattle.table_text.specs.Ranges.{IsStateOfWords, IsWord}
use Rattle.table_text.specs.Texts.{text_of}
use Rattle.task_table.proofs.Results.{if_err, if_err-map}
use Rattle.table_load.specs.Faults.{of_load}
use Rattle.table_load.proofs.Kept.{if_loaded}
use Rattle.table_load.proofs.Refused.{form-told, no-table, no-text}
use Rattle.table_load.proofs.load.load.Goals as goal

pub returns-in_err-saved-clause-form : goal.returns-in_err-saved-clause-form
returns-in_err-saved-clause-form c =
    if_err c.from_residual.result _ (of_load c.in_err-saved.field-0.0) c.from_residual.ensures.1 (form-told c.in_err-saved.field-0.0 _ c.in_err-saved.ensures.err)

pub returns-in_err-saved-clause-refused : goal.returns-in_err-saved-clause-refused
returns-in_err-saved-clause-refused c =
    if_err c.from_residual.result _ (of_load c.in_err-saved.field-0.0) c.from_residual.ensures.1 (no-text c.in_err-saved.field-0.0 c.args.text.now c.in_err-saved.ensures.err)

pub returns-clause-text : goal.returns-clause-text
returns-clause-text c =
    let saved = c.in_ok-saved.saved in
    if_loaded c.table_of.result _ _ _ c.table_of.ensures.state c.table_of.ensures.stamp (λ l state stamp.
    c.in_ok-saved.ensures.text ∙ sym (ap (λ n. text_of n l.table) stamp ∙ ap (text_of saved.stamp) state))

pub returns-clause-words : goal.returns-clause-words
returns-clause-words c =
    let words = c.in_ok-saved.ensures.words in
    if_loaded c.table_of.result _ _ _ c.table_of.ensures.state c.table_of.ensures.stamp (λ l state stamp.
    (subst IsWord (sym stamp) words.0, subst IsStateOfWords (sym state) words.1))

pub returns-clause-sound : goal.returns-clause-sound
returns-clause-sound c = c.table_of.ensures.sound

pub returns-clause-form : goal.returns-clause-form
returns-clause-form c = if_err-map c.table_of.result _ _ (λ fault never form. absurd (never form)) c.table_of.ensures.form

pub returns-clause-refused : goal.returns-clause-refused
returns-clause-refused c =
    let read = c.in_ok-saved.ensures in
    if_err-map c.table_of.result _ _ (λ fault refuses not. no-table c.texts_tell_states.ensures c.what_fits_is_of_words.ensures c.args.text.now c.in_ok-saved.saved read.text read.words (refuses not))
    c.table_of.ensures.refused
