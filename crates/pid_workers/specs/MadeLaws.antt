-- That what a record makes adds up.
use Rattle.std.specs.Prelude.{List, [], ◌++◌, refl}
use Rattle.std.proofs.Common.{sym, ap, ◌∙◌, append-nil, append_assoc}
use Rattle.pid_types.specs.declared.call.Call.{Call}
use Rattle.pid_types.specs.declared.reply.Reply.{Reply}
use Rattle.kept_table.specs.Chronicle.{Chronicle}
use Rattle.pid_workers.specs.Made.{kept_calls, MakesCalls}

-- no call
pub makes_nothing : (c : Chronicle) → MakesCalls c c []
makes_nothing c = record { config = refl; resumed = refl; whole = refl; made = sym (append-nil (kept_calls c)) }

-- some calls, and then others
pub makes_more : (a b c : Chronicle) (xs ys : List (Call × Reply)) → MakesCalls a b xs → MakesCalls b c ys → MakesCalls a c (xs ++ ys)
makes_more a b c xs ys first second = record {
  config = second.config ∙ first.config;
  resumed = second.resumed ∙ first.resumed;
  whole = second.whole ∙ first.whole;
  made = second.made ∙ ap (λ calls. calls ++ ys) first.made ∙ append_assoc (kept_calls a) xs ys;
}
