-- The rest of a line that was read last, and a line with that rest.
use Rattle.std.proofs.Common.{ℕ, List, sym, subst, arith}
use Rattle.pid_types.specs.declared.plain.Name.{Name}
use Rattle.pid_types.specs.declared.plain.Row.{Row}
use Rattle.table_text.specs.Ranges.{IsNameOfWords, IsRowOfWords}
use Rattle.table_text.specs.Reading.{IsRead}
use Rattle.table_text.specs.Rests.{IsRest}
use Rattle.table_text.specs.Texts.{rest_line}
use Rattle.table_text.specs.declared.read.Rest.{Rest}
use Rattle.table_text.proofs.Lines.{rest_same}

pub words_named : (r : Row) (name : Name) → IsRowOfWords r → IsNameOfWords name → IsRowOfWords (record r { name = name })
words_named r name words named = record {
  name = named;
  parent = words.parent;
  group = words.group;
  session = words.session;
  life = words.life;
  home = words.home;
  children_space = words.children_space;
}

-- it is that of a row with another name
pub rest_named : (text : List ℕ) (a b : ℕ) (r : Row) (name : Name) → IsRead text a b (rest_line r) → IsRead text a b (rest_line (record r { name = name }))
rest_named text a b r name read = subst (IsRead text a b) (sym (rest_same r name)) read

pub rest_kept : (text : List ℕ) (rest : Rest) (r : Row) (name : Name) → IsRest text rest r → IsNameOfWords name → IsRest text rest (record r { name = name })
rest_kept text rest r name h named = record {
  order = h.order;
  within = h.within;
  read = λ some. rest_named text rest.start rest.end r name (h.read some);
  words = λ some. words_named r name (h.words some) named;
}

-- before the first line
pub rest_none : (text : List ℕ) (r : Row) → IsRest text (record { start = 0; end = 0 }) r
rest_none text r = record { order = omega arith; within = omega arith; read = λ some. absurd (omega (arith, some)); words = λ some. absurd (omega (arith, some)) }
