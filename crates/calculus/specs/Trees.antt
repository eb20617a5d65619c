-- Document 01, "Words and file", the tree kinds: types, and the terms of the two languages, as trees.
use Rattle.std.specs.Prelude.{ℕ}

infixr 30 ◌to◌
-- "1 N (number); 2 L (lump, a sealed Scheme value); 3 list, written {t}: t; 4 function, written t to u: t, u." And of document 02, "The operand of L
-- becomes an owner".
pub data Ty : Type 0 where
  N : Ty
  L : ℕ → Ty
  list : Ty → Ty
  ◌to◌ : Ty → Ty → Ty

pub data Lang : Type 0 where
  ml sc : Lang

-- What is written where ML has a type. Scheme has one static type, which is not written; to have it is to be well formed.
abbrev pub Static : Lang → Type 0
Static ml = Ty
Static sc = Unit {0}

-- The static types of numbers, lists and functions.
abbrev pub numbers : (l : Lang) → Static l
numbers ml = N
numbers sc = tt

abbrev pub lists : (l : Lang) → Static l → Static l
lists ml t = list t
lists sc t = tt

abbrev pub functions : (l : Lang) → Static l → Static l → Static l
functions ml t u = t to u
functions sc t u = tt

-- "test (operand 0 fun?, 1 list?, 2 null?, 3 num?)".
pub data Test : Type 0 where
  is_fun is_list is_null is_num : Test

-- The operators of one part, and of two, by the document's names in capitals.
pub data Op1 : Lang → Type 0 where
  HD TL : {l : Lang} → Op1 l
  FIX NULL? : Op1 ml
  TEST : Test → Op1 sc

pub data Op2 : Type 0 where
  APP ADD SUB CONS : Op2

-- Ten shapes of terms serve both languages. A variable's number counts the lambdas of both languages between it and its own.
pub data Term : Lang → Type 0 where
  var num : {l : Lang} → ℕ → Term l
  lam : {l : Lang} → Static l → Term l → Term l
  op1 : {l : Lang} → Op1 l → Term l → Term l
  op2 : {l : Lang} → Op2 → Term l → Term l → Term l
  if0 : {l : Lang} → Term l → Term l → Term l → Term l
  nil : {l : Lang} → Static l → Term l
  wrong : {l : Lang} → ℕ → Static l → Term l
  ms : Ty → Term sc → Term ml
  sm : Ty → Term ml → Term sc

-- The operators' terms, by the document's names.
abbrev pub app : {l : Lang} → Term l → Term l → Term l
app f a = op2 APP f a

abbrev pub add : {l : Lang} → Term l → Term l → Term l
add a b = op2 ADD a b

abbrev pub sub : {l : Lang} → Term l → Term l → Term l
sub a b = op2 SUB a b

abbrev pub cons : {l : Lang} → Term l → Term l → Term l
cons a b = op2 CONS a b

abbrev pub hd : {l : Lang} → Term l → Term l
hd e = op1 HD e

abbrev pub tl : {l : Lang} → Term l → Term l
tl e = op1 TL e

abbrev pub fix : Term ml → Term ml
fix e = op1 FIX e

abbrev pub null? : Term ml → Term ml
null? e = op1 NULL? e

abbrev pub test : Test → Term sc → Term sc
test k e = op1 (TEST k) e
