use Rattle.std.proofs.Common.{rules, ◌-◌, ◌++◌, ◌∷◌, length, decimal, arith, take, drop, sym, ap, ◌∙◌, append_assoc}
use Rattle.std.proofs.lemmas.Grind.{common_steps}
use Rattle.std.specs.List.{flat_map}
use Rattle.pid_script.specs.Answers.{joined}
use Rattle.pid_script.proofs.Room.{length_decimal_of_64, room}
use Rattle.pid_script.proofs.Joined.{joined_parts}
use Rattle.pid_script.proofs.answer.push_joined.Goals as goal

pub returns-in-len1-up-clause-items : goal.returns-in-len1-up-clause-items
returns-in-len1-up-clause-items g c =
    let numbers = c.as_slice.result.now in
    let before = c.args.text.now.items in
    let rest = flat_map (λ n. c.args.separator ∷ decimal n) (take (length numbers - 1) (drop 1 numbers)) in
    c.push_rest.ensures.items
    ∙ ap (λ text. text ++ rest) c.push_number.ensures.items
    ∙ append_assoc before (decimal c.from.result) rest
    ∙ ap (λ n. before ++ (decimal n ++ rest)) c.from.ensures
    ∙ ap (λ all. before ++ all) (sym (joined_parts c.args.separator numbers (omega (arith, c.in-len1-up.len_at_least))))
    ∙ ap (λ all. before ++ joined c.args.separator all) c.as_slice.ensures.value

pub push_number-requires : goal.push_number-requires
push_number-requires g c = (search rules, omega (arith, length_decimal_of_64 c.from.result c.from.type_inv))

pub returns-in_default-clause-items : goal.returns-in_default-clause-items
returns-in_default-clause-items c = grind (arith, common_steps)

pub push_rest-requires : goal.push_rest-requires
push_rest-requires g c = (search rules, grind (arith, room))

pub returns-in-len1-up-clause-len : goal.returns-in-len1-up-clause-len
returns-in-len1-up-clause-len g c = grind (arith, room)
