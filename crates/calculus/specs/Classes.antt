-- Document 02, "Where the steps went": the class of a step, by the node that it reduces and not by what that becomes.
use Rattle.std.specs.Prelude.{ℕ, ◌+◌, ◌%◌, cond, ◌||◌, eqb}
use Rattle.calculus.specs.Trees.{Lang, Op1, HD, TL, FIX, NULL?, TEST, Op2, APP, ADD, SUB, CONS, Term, var, num, lam, op1, op2, if0, nil}
use Rattle.calculus.specs.Trees.{wrong, ms, sm}
use Rattle.calculus.specs.Reduction.{Turn, done, at, turn}
use Rattle.calculus.specs.Rules.{◌⟶◌, by_rule, Steps, stay, then}

-- "three counts: calls, conversions, others".
pub data Class : Type 0 where
  call conversion other : Class

-- "A step on an application or a fix is a call. A step on an ms or sm word is a conversion. All other steps .. are others."
abbrev pub class1 : {l : Lang} → Op1 l → Class
class1 HD = other
class1 TL = other
class1 FIX = call
class1 NULL? = other
class1 (TEST k) = other

abbrev pub class2 : Op2 → Class
class2 APP = call
class2 ADD = other
class2 SUB = other
class2 CONS = other

-- The class of a node.
abbrev pub node_class : {l : Lang} → Term l → Class
node_class (var i) = other
node_class (num n) = other
node_class (lam t b) = other
node_class (op1 o a) = class1 o
node_class (op2 o a b) = class2 o
node_class (if0 a b c) = other
node_class (nil t) = other
node_class (wrong c t) = other
node_class (ms t a) = conversion
node_class (sm t a) = conversion

-- The same by the node's word: kinds 19 and 35 are applications, 20 is fix, 30 is ms and 45 sm.
abbrev pub kind_class : ℕ → Class
kind_class k = cond (eqb k 19 || eqb k 20 || eqb k 35) call (cond (eqb k 30 || eqb k 45) conversion other)

abbrev pub word_class : ℕ → Class
word_class w = kind_class (w % 256)

-- The class of the step that a term takes next: that of the node whose turn it is. A value takes none.
abbrev pub turn_class : {l : Lang} → Turn l → Class
turn_class done = other
turn_class (at m F n) = node_class n

abbrev pub next_class : {l : Lang} → Term l → Class
next_class e = turn_class (turn e)

-- The class of a step of the published reduction: that of the node which its rule rewrites.
abbrev pub step_class : {l : Lang} {e r : Term l} → e ⟶ r → Class
step_class (by_rule {e = n} E h) = node_class n

-- 1 for a class that is the one asked for, 0 for another.
abbrev pub indicator : Class → Class → ℕ
indicator call call = 1
indicator call conversion = 0
indicator call other = 0
indicator conversion call = 0
indicator conversion conversion = 1
indicator conversion other = 0
indicator other call = 0
indicator other conversion = 0
indicator other other = 1

-- How many steps of a class are among the steps of a reduction.
abbrev pub among : {l : Lang} {n : ℕ} {e r : Term l} → Class → Steps n e r → ℕ
among x stay = 0
among x (then a p) = indicator x (step_class a) + among x p
