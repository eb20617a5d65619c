-- The laws of the card's layout: a line is fields of fixed width, one after the other. Assumes nothing.
use Prim.Native.Nat.{ℕ, zero, suc, ◌+◌, ◌*◌, ◌-◌, ◌≤◌, ◌<◌}
use mathlib.Core.Bool.{Bool, true, false, cond}
use mathlib.Core.List.{List, [], ◌∷◌, ◌++◌, append_assoc}
use mathlib.Core.Path.{◌≡◌, refl, sym, ap, ◌∙◌, subst}
use native.Mathlib.Omega.{arith}
use lib.Dec.{eqb}
use lib.ListN.{length, take, drop, get_or, replicate, length-append, length-replicate, length-take, length-drop, take-append-drop}
use lib.Seq.{take_all, take_at, drop_at, drop-drop, take-add}
use borrow.Author.Tests.{ne_eqb, eqb-true}
use Rattle.text.specs.Decimal.{decimal, Digits}
use Rattle.text.specs.Characters.{blank, line_feed, characters}
use Rattle.text.proofs.Decimals.{decimal_length, decimal_iff}
use Rattle.layout.specs.Layout.{right_to, ended, pump_line, last_line, pump_lines, card}
use Rattle.layout.specs.Laws.{Fits, line_at, columns, Printed, Line, unblanked, Shows, PumpLine, LastLine, ByColumns, Card}

-- A text in a field of a width, blanks before it.
abbrev field : ℕ → List ℕ → List ℕ
field w t = replicate (w - length t) blank ++ t

abbrev last_blanks : List ℕ
last_blanks = replicate 8 blank

field_length : (w : ℕ) (t : List ℕ) → length t ≤ w → length (field w t) ≡ w
field_length w t h = omega (arith, length-append (replicate (w - length t) blank) t, length-replicate {A = ℕ} (w - length t) blank)

right_field : (column w : ℕ) (t line : List ℕ) → length line + w ≡ column → length t ≤ w → right_to column t line ≡ line ++ field w t
right_field column w t line q h =
    let e : column - length t - length line ≡ w - length t = omega (arith, q) in
    append_assoc line (replicate (column - length t - length line) blank) t ∙ ap (λ (i : ℕ). line ++ (replicate i blank ++ t)) e

ended_field : (line : List ℕ) → length line ≡ 32 → ended line ≡ (line ++ last_blanks) ++ line_feed ∷ []
ended_field line q = let e : 40 - length line ≡ 8 = omega (arith, q) in ap (λ (i : ℕ). (line ++ replicate i blank) ++ line_feed ∷ []) e

-- What stands in columns of a line that is made of parts.
columns_of : (a b : ℕ) {line : List ℕ} (xs ys zs : List ℕ) → line ≡ (xs ++ ys) ++ zs → length xs ≡ a - 1 → length ys ≡ b + 1 - a
    → columns a b line ≡ ys
columns_of a b xs ys zs q p r =
    ap (columns a b) (q ∙ append_assoc xs ys zs) ∙ ap (take (b + 1 - a)) (drop_at xs (ys ++ zs) (a - 1) p) ∙ take_at ys zs (b + 1 - a) r

-- A number's digits behind blanks.
blanks_off : (k : ℕ) (t : List ℕ) → unblanked (replicate k blank ++ t) ≡ unblanked t
blanks_off zero t = refl
blanks_off (suc k) t = blanks_off k t

digits_stay : (ds : List ℕ) → Digits ds → unblanked ds ≡ ds
digits_stay [] h = refl
digits_stay (d ∷ ds) h = rw (ne_eqb d 32 (λ e. omega (arith, e, h.0)))

shown : (a b w n : ℕ) (line : List ℕ) → columns a b line ≡ field w (decimal n) → Shows a b n line
shown a b w n line q =
    let i = (decimal_iff n (decimal n)).1 refl in
    (decimal_iff n _).1 (ap unblanked q ∙ blanks_off (w - length (decimal n)) (decimal n) ∙ digits_stay (decimal n) i.digits)

-- Printed bytes.
printed_append : (xs ys : List ℕ) → Printed xs → Printed ys → Printed (xs ++ ys)
printed_append [] ys h i = i
printed_append (x ∷ xs) ys h i = (h.0, h.1, printed_append xs ys h.2 i)

printed_blanks : (k : ℕ) → Printed (replicate k blank)
printed_blanks zero = tt
printed_blanks (suc k) = (omega arith, omega arith, printed_blanks k)

printed_digits : (ds : List ℕ) → Digits ds → Printed ds
printed_digits [] h = tt
printed_digits (d ∷ ds) h = (omega (arith, h.0), omega (arith, h.1), printed_digits ds h.2)

printed_field : (w n : ℕ) → Printed (field w (decimal n))
printed_field w n =
    printed_append (replicate (w - length (decimal n)) blank) (decimal n) (printed_blanks (w - length (decimal n)))
    (printed_digits (decimal n) ((decimal_iff n (decimal n)).1 refl).digits)

-- A line of 40 printed bytes.
line_of : {line : List ℕ} (body : List ℕ) → line ≡ body ++ line_feed ∷ [] → length body ≡ 40 → Printed body → Line line
line_of body q l p =
    let c = columns_of 1 40 [] body (line_feed ∷ []) q refl l in
    record { forty = ap length c ∙ l; printed = subst Printed (sym c) p; ends = q ∙ ap (λ (x : List ℕ). x ++ line_feed ∷ []) (sym c) }

-- A line of a front, a number right-aligned to column 32, and blanks.
module _ (front : List ℕ) (w n : ℕ) (whole : length front + w ≡ 32) (few : length (decimal n) ≤ w) (p : Printed front) where
  abbrev number : List ℕ
  number = field w (decimal n)

  thirty_two : length (front ++ number) ≡ 32
  thirty_two = omega (arith, whole, length-append front number, field_length w (decimal n) few)

  abbrev made : List ℕ
  made = (front ++ number ++ last_blanks) ++ line_feed ∷ []

  made_of : ended (right_to 32 (decimal n) front) ≡ made
  made_of = ap ended (right_field 32 w (decimal n) front whole few) ∙ ended_field (front ++ number) thirty_two

  made_long : length made ≡ 41
  made_long =
      omega (arith, thirty_two, length-append (front ++ number ++ last_blanks) (line_feed ∷ []), length-append (front ++ number) last_blanks)

  made_line : Line made
  made_line =
      line_of (front ++ number ++ last_blanks) refl (omega (arith, thirty_two, length-append (front ++ number) last_blanks))
      (printed_append (front ++ number) last_blanks (printed_append front number p (printed_field w n)) (printed_blanks 8))

  behind : made ≡ (front ++ number) ++ (last_blanks ++ line_feed ∷ [])
  behind = append_assoc (front ++ number) last_blanks (line_feed ∷ [])

  in_front : made ≡ front ++ (number ++ (last_blanks ++ line_feed ∷ []))
  in_front = behind ∙ append_assoc front number (last_blanks ++ line_feed ∷ [])

  made_blanks : columns 33 40 made ≡ last_blanks
  made_blanks = columns_of 33 40 (front ++ number) last_blanks (line_feed ∷ []) refl thirty_two refl

  made_number : (a : ℕ) → length front + 1 ≡ a → Shows a 32 n made
  made_number a q =
      shown a 32 w n made
      (columns_of a 32 front number (last_blanks ++ line_feed ∷ []) behind (omega (arith, q))
      (field_length w (decimal n) few ∙ omega (arith, q, whole)))

-- A pump's line.
module _ (pump pulses charge : ℕ) (p : pump ≤ 9) (n : pulses ≤ 4294967295) (c : charge ≤ 4294967295000) where
  abbrev one : List ℕ
  one = field 2 (decimal pump)

  abbrev two : List ℕ
  two = field 14 (decimal pulses)

  digit_few : length (decimal pump) ≤ 2
  digit_few = omega (arith, decimal_length 0 pump (omega arith))

  digits_few : length (decimal pulses) ≤ 14
  digits_few = omega (arith, decimal_length 9 pulses (omega arith))

  charge_few : length (decimal charge) ≤ 16
  charge_few = omega (arith, decimal_length 12 charge (omega arith))

  one_long : length one ≡ 2
  one_long = field_length 2 (decimal pump) digit_few

  two_long : length two ≡ 14
  two_long = field_length 14 (decimal pulses) digits_few

  whole : length (one ++ two) + 16 ≡ 32
  whole = omega (arith, length-append one two, one_long, two_long)

  printed : Printed (one ++ two)
  printed = printed_append one two (printed_field 2 pump) (printed_field 14 pulses)

  abbrev pump_made : List ℕ
  pump_made = made (one ++ two) 16 charge whole charge_few printed

  pump_of : pump_line pump pulses charge ≡ pump_made
  unfolding pump_line
  pump_of =
      ap (λ (l : List ℕ). ended (right_to 32 (decimal charge) (right_to 16 (decimal pulses) l))) (right_field 2 2 (decimal pump) [] refl digit_few)
      ∙ ap (λ (l : List ℕ). ended (right_to 32 (decimal charge) l)) (right_field 16 14 (decimal pulses) one (omega (arith, one_long)) digits_few)
      ∙ made_of (one ++ two) 16 charge whole charge_few printed

  pump_long : length (pump_line pump pulses charge) ≡ 41
  pump_long = ap length pump_of ∙ made_long (one ++ two) 16 charge whole charge_few printed

  pump_line_lem : PumpLine pump pulses charge (pump_line pump pulses charge)
  pump_line_lem =
      let front = in_front (one ++ two) 16 charge whole charge_few printed in
      rw pump_of
      record {
        is_line = made_line (one ++ two) 16 charge whole charge_few printed;
        number = shown 1 2 2 pump pump_made (columns_of 1 2 [] one _ (front ∙ append_assoc one two _) refl one_long);
        gives = shown 3 16 14 pulses pump_made (columns_of 3 16 one two _ front one_long two_long);
        costs = made_number (one ++ two) 16 charge whole charge_few printed 17 (omega (arith, whole));
        blanks = made_blanks (one ++ two) 16 charge whole charge_few printed;
      }

-- The last line.
module _ (total : ℕ) (h : total ≤ 38654705655000) where
  abbrev name : List ℕ
  name = characters "TOTAL"

  total_few : length (decimal total) ≤ 27
  total_few = omega (arith, decimal_length 13 total (omega arith))

  name_printed : Printed name
  name_printed =
      (omega arith, omega arith, (omega arith, omega arith, (omega arith, omega arith, (omega arith, omega arith, (omega arith, omega arith, tt)))))

  last_of : last_line total ≡ made name 27 total refl total_few name_printed
  unfolding last_line
  last_of = made_of name 27 total refl total_few name_printed

  last_long : length (last_line total) ≡ 41
  last_long = ap length last_of ∙ made_long name 27 total refl total_few name_printed

  last_line_lem : LastLine total (last_line total)
  last_line_lem =
      rw last_of
      record {
        is_line = made_line name 27 total refl total_few name_printed;
        name = columns_of 1 5 [] name _ (in_front name 27 total refl total_few name_printed) refl refl;
        sum = made_number name 27 total refl total_few name_printed 6 refl;
        blanks = made_blanks name 27 total refl total_few name_printed;
      }

-- The lines of the pumps from one on, counted from 0: as many as there are items, each where it should stand.
module _ (charges : List ℕ) (c : (i : ℕ) → get_or charges i 0 ≤ 4294967295000) where
  abbrev Wide : ℕ → List ℕ → Type 0
  Wide i ns = (i + length ns ≤ 9) × ((k : ℕ) → get_or ns k 0 ≤ 4294967295)

  wide_rest : (i n : ℕ) (ns : List ℕ) → Wide i (n ∷ ns) → Wide (suc i) ns
  wide_rest i n ns w = (omega (arith, w.0), λ k. w.1 (suc k))

  first_long : (i n : ℕ) (ns : List ℕ) → Wide i (n ∷ ns) → length (pump_line (suc i) n (get_or charges i 0)) ≡ 41
  first_long i n ns w = pump_long (suc i) n (get_or charges i 0) (omega (arith, w.0)) (w.1 0) (c i)

  lines_long : (i : ℕ) (ns : List ℕ) → Wide i ns → length (pump_lines charges i ns) ≡ 41 * length ns
  unfolding pump_lines
  lines_long i [] w = refl
  lines_long i (n ∷ ns) w =
      omega (
        arith,
        length-append (pump_line (suc i) n (get_or charges i 0)) (pump_lines charges (suc i) ns),
        first_long i n ns w,
        lines_long (suc i) ns (wide_rest i n ns w),
      )

  line_at_lem : (i k : ℕ) (ns rest : List ℕ) → Wide i ns → k < length ns
      → line_at k (pump_lines charges i ns ++ rest) ≡ pump_line (i + k + 1) (get_or ns k 0) (get_or charges (i + k) 0)
  unfolding pump_lines
  line_at_lem i k [] rest w h = absurd (omega (arith, h))
  line_at_lem i zero (n ∷ ns) rest w h =
      let here = pump_line (suc i) n (get_or charges i 0) in
      let at : i + 0 ≡ i = omega arith in
      let pump : i + 1 ≡ suc i = omega arith in
      ap (take 41) (append_assoc here (pump_lines charges (suc i) ns) rest)
      ∙ take_at here (pump_lines charges (suc i) ns ++ rest) 41 (first_long i n ns w)
      ∙ rw (at, pump)
  line_at_lem i (suc k) (n ∷ ns) rest w h =
      let here = pump_line (suc i) n (get_or charges i 0) in
      let more = pump_lines charges (suc i) ns ++ rest in
      let far : 41 * suc k ≡ 41 + 41 * k = omega arith in
      let at : suc i + k ≡ i + suc k = omega arith in
      ap (line_at (suc k)) (append_assoc here (pump_lines charges (suc i) ns) rest)
      ∙ ap (λ (m : ℕ). take 41 (drop m (here ++ more))) far
      ∙ ap (take 41) (sym (drop-drop (41 * k) 41 (here ++ more)))
      ∙ ap (line_at k) (drop_at here more 41 (first_long i n ns w))
      ∙ line_at_lem (suc i) k ns rest (wide_rest i n ns w) (omega (arith, h))
      ∙ ap (λ (m : ℕ). pump_line (m + 1) (get_or ns k 0) (get_or charges m 0)) at

-- The whole card.
module _ (ns charges : List ℕ) (total : ℕ) (f : Fits ns charges total) where
  wide : Wide charges f.charges_fit 0 ns
  wide = (omega (arith, f.few), f.pulses_fit)

  card_long : length (card ns charges total) ≡ 41 * (length ns + 1)
  unfolding card
  card_long =
      omega (
        arith,
        length-append (pump_lines charges 0 ns) (last_line total),
        lines_long charges f.charges_fit 0 ns wide,
        last_long total f.total_fits,
      )

  card_pump : (k : ℕ) → k < length ns → PumpLine (k + 1) (get_or ns k 0) (get_or charges k 0) (line_at k (card ns charges total))
  unfolding card
  card_pump k h =
      let at : 0 + k ≡ k = omega arith in
      subst (PumpLine (k + 1) (get_or ns k 0) (get_or charges k 0))
      (sym (line_at_lem charges f.charges_fit 0 k ns (last_line total) wide h ∙ rw at))
      (pump_line_lem (k + 1) (get_or ns k 0) (get_or charges k 0) (omega (arith, h, f.few)) (f.pulses_fit k) (f.charges_fit k))

  card_last : LastLine total (line_at (length ns) (card ns charges total))
  unfolding card
  card_last =
      let here : line_at (length ns) (card ns charges total) ≡ last_line total =
      ap (take 41) (drop_at (pump_lines charges 0 ns) (last_line total) (41 * length ns) (lines_long charges f.charges_fit 0 ns wide))
      ∙ take_all 41 (last_line total) (omega (arith, last_long total f.total_fits)) in
      subst (LastLine total) (sym here) (last_line_lem total f.total_fits)

card_empty : (charges : List ℕ) (total : ℕ) → card [] charges total ≡ last_line total
unfolding card pump_lines
card_empty charges total = refl

-- Another text that reads so. A text of a width is a field, by what stands behind its blanks.
few_behind : (cs : List ℕ) → length (unblanked cs) ≤ length cs
few_behind [] = omega arith
few_behind (c ∷ cs) = by (eqb c blank) (few_behind cs)
  where
    by : (b : Bool) → length (unblanked cs) ≤ length cs → length (cond b (unblanked cs) (c ∷ cs)) ≤ suc (length cs)
    by true h = omega (arith, h)
    by false h = omega arith

blanks_before : (cs : List ℕ) → cs ≡ replicate (length cs - length (unblanked cs)) blank ++ unblanked cs
blanks_before [] = refl
blanks_before (c ∷ cs) = by (eqb c blank) refl (blanks_before cs)
  where
    by : (b : Bool) → eqb c blank ≡ b → cs ≡ replicate (length cs - length (unblanked cs)) blank ++ unblanked cs
        → c ∷ cs ≡ replicate (suc (length cs) - length (cond b (unblanked cs) (c ∷ cs))) blank ++ cond b (unblanked cs) (c ∷ cs)
    by true q h =
        let e : suc (length cs) - length (unblanked cs) ≡ suc (length cs - length (unblanked cs)) = omega (arith, few_behind cs) in
        rw (e, eqb-true c blank q) (ap (λ (l : List ℕ). blank ∷ l) h)
    by false q h = let e : suc (length cs) - suc (length cs) ≡ 0 = omega arith in rw e

field_only : (a b w n : ℕ) (line : List ℕ) → length (columns a b line) ≡ w → Shows a b n line → columns a b line ≡ field w (decimal n)
field_only a b w n line l s =
    let d = (decimal_iff n (unblanked (columns a b line))).0 s in
    blanks_before (columns a b line) ∙ ap (λ (t : List ℕ). replicate (length (columns a b line) - length t) blank ++ t) d
    ∙ ap (λ (i : ℕ). replicate (i - length (decimal n)) blank ++ decimal n) l

-- A line is what stands before a column, in the columns from there to 32, and the blanks behind.
module _ (line : List ℕ) (l : Line line) where
  enough : 40 ≤ length line
  enough = omega (arith, l.forty, length-take 40 line)

  parted : (a w : ℕ) → a + w ≡ 32 → line ≡ (take a line ++ take w (drop a line) ++ take 8 (drop 32 line)) ++ line_feed ∷ []
  parted a w q =
      l.ends
      ∙ ap (λ (t : List ℕ). t ++ line_feed ∷ [])
      (take-add 32 8 line ∙ ap (λ (t : List ℕ). t ++ take 8 (drop 32 line)) (ap (λ (n : ℕ). take n line) (sym q) ∙ take-add a w line))

  wide_enough : (a b : ℕ) → 1 ≤ a → b ≤ 40 → length (columns a b line) ≡ b + 1 - a
  wide_enough a b h k = omega (arith, length-take (b + 1 - a) (drop (a - 1) line), length-drop (a - 1) line, enough)

  made_only : (a w n : ℕ) → a + w ≡ 32 → Shows (a + 1) 32 n line → columns 33 40 line ≡ last_blanks
      → line ≡ (take a line ++ field w (decimal n) ++ last_blanks) ++ line_feed ∷ []
  made_only a w n q s b =
      let width : 32 + 1 - (a + 1) ≡ w = omega (arith, q) in
      let start : a + 1 - 1 ≡ a = omega arith in
      let same : columns (a + 1) 32 line ≡ take w (drop a line) =
      ap (λ (k : ℕ). take k (drop (a + 1 - 1) line)) width ∙ ap (λ (k : ℕ). take w (drop k line)) start in
      let number = field_only (a + 1) 32 w n line (wide_enough (a + 1) 32 (omega arith) (omega arith) ∙ width) s in
      parted a w q
      ∙ ap (λ (t : List ℕ). (take a line ++ t ++ take 8 (drop 32 line)) ++ line_feed ∷ []) (sym same ∙ number)
      ∙ ap (λ (t : List ℕ). (take a line ++ field w (decimal n) ++ t) ++ line_feed ∷ []) b

pump_only : (pump pulses charge : ℕ) → pump ≤ 9 → pulses ≤ 4294967295 → charge ≤ 4294967295000 → (line : List ℕ)
    → PumpLine pump pulses charge line → line ≡ pump_line pump pulses charge
pump_only pump pulses charge p n c line r =
    let l = r.is_line in
    let first = field_only 1 2 2 pump line (wide_enough line l 1 2 (omega arith) (omega arith)) r.number in
    let second = field_only 3 16 14 pulses line (wide_enough line l 3 16 (omega arith) (omega arith)) r.gives in
    let front : take 16 line ≡ field 2 (decimal pump) ++ field 14 (decimal pulses) =
    take-add 2 14 line ∙ ap (λ (t : List ℕ). t ++ take 14 (drop 2 line)) first ∙ ap (λ (t : List ℕ). field 2 (decimal pump) ++ t) second in
    made_only line l 16 16 charge refl r.costs r.blanks
    ∙ ap (λ (t : List ℕ). (t ++ field 16 (decimal charge) ++ last_blanks) ++ line_feed ∷ []) front
    ∙ sym (pump_of pump pulses charge p n c)

last_only : (total : ℕ) → total ≤ 38654705655000 → (line : List ℕ) → LastLine total line → line ≡ last_line total
last_only total h line r =
    made_only line r.is_line 5 27 total refl r.sum r.blanks
    ∙ ap (λ (t : List ℕ). (t ++ field 27 (decimal total) ++ last_blanks) ++ line_feed ∷ []) r.name
    ∙ sym (last_of total h)

-- A text is its first line and the others.
behind_first : (k : ℕ) (text : List ℕ) → line_at k (drop 41 text) ≡ line_at (suc k) text
behind_first k text =
    let far : 41 + 41 * k ≡ 41 * suc k = omega arith in
    ap (take 41) (drop-drop (41 * k) 41 text ∙ ap (λ (m : ℕ). drop m text) far)

lines_only : (charges : List ℕ) (total i : ℕ) (ns text : List ℕ) → length text ≡ 41 * (length ns + 1)
    → ((k : ℕ) → k < length ns → line_at k text ≡ pump_line (i + k + 1) (get_or ns k 0) (get_or charges (i + k) 0))
    → line_at (length ns) text ≡ last_line total → text ≡ pump_lines charges i ns ++ last_line total
unfolding pump_lines
lines_only charges total i [] text l p q = sym (take_all 41 text (omega (arith, l))) ∙ q
lines_only charges total i (n ∷ ns) text l p q =
    let at : i + 0 ≡ i = omega arith in
    let pump : i + 1 ≡ suc i = omega arith in
    let first : take 41 text ≡ pump_line (suc i) n (get_or charges i 0) = p 0 (omega arith) ∙ rw (at, pump) in
    let rest = lines_only charges total (suc i) ns (drop 41 text) (omega (arith, l, length-drop 41 text))
    (λ k h. behind_first k text ∙ p (suc k) (omega (arith, h)) ∙ moved k) (behind_first (length ns) text ∙ q) in
    sym (take-append-drop 41 text) ∙ ap (λ (t : List ℕ). t ++ drop 41 text) first
    ∙ ap (λ (t : List ℕ). pump_line (suc i) n (get_or charges i 0) ++ t) rest
    ∙ sym (append_assoc (pump_line (suc i) n (get_or charges i 0)) (pump_lines charges (suc i) ns) (last_line total))
  where
    moved : (k : ℕ)
        → pump_line (i + suc k + 1) (get_or ns k 0) (get_or charges (i + suc k) 0)
        ≡ pump_line (suc i + k + 1) (get_or ns k 0) (get_or charges (suc i + k) 0)
    moved k =
        let e : i + suc k ≡ suc i + k = omega arith in
        ap (λ (m : ℕ). pump_line (m + 1) (get_or ns k 0) (get_or charges m 0)) e

card_only : (ns charges : List ℕ) (total : ℕ) (text : List ℕ) → Fits ns charges total → ByColumns ns charges total text
    → text ≡ card ns charges total
unfolding card
card_only ns charges total text f r = lines_only charges total 0 ns text r.long lines (last_only total f.total_fits _ r.last)
  where
    lines : (k : ℕ) → k < length ns → line_at k text ≡ pump_line (0 + k + 1) (get_or ns k 0) (get_or charges (0 + k) 0)
    lines k h =
        let at : 0 + k ≡ k = omega arith in
        pump_only (k + 1) (get_or ns k 0) (get_or charges k 0) (omega (arith, h, f.few)) (f.pulses_fit k) (f.charges_fit k) _ (r.pumps k h) ∙ rw at

pub laws : Card
laws =
    record {
      reads = λ ns charges total f.
          record { long = card_long ns charges total f; pumps = card_pump ns charges total f; last = card_last ns charges total f };
      only = card_only;
      empty = card_empty;
    }
