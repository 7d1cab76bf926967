-- What stands at a place of a request, as the bytes of one item; from the bytes to the item, and back. Assumes nothing.
use Rattle.std.proofs.Common.{◌≡◌, ℕ, ◌+◌, ◌/◌, ◌%◌, ◌<◌, ◌≤◌, List, [], ◌∷◌, ◌++◌, length, get_or, take, drop, Ok, Err, Result, sym, refl, ap, ◌∙◌, subst, inl, inr, append_assoc, add-zero, arith, length-append, length-drop, take-append-drop}
use Rattle.std.proofs.lemmas.List.{get_or-drop, drop-drop, drop_at, take_at, drop_more, length-take-le}
use Rattle.std.proofs.lemmas.Bool.Decides.{nat_tests}
use Rattle.std.proofs.lemmas.Bool.{cases_lt, cases_eq, cond-true, cond-false, eq-eqb, ne_eqb}
use Rattle.ipp.specs.declared.attributes.Fault.TheVariants.{Bytes}
use Rattle.ipp.specs.Bytes.{Run, two_at, counted_at}
use Rattle.ipp.specs.Items.{Piece, mark, attribute, further, end, then, valued, next_item}
use Rattle.grammar.specs.Grammar.{Written, group, named, more, counted, spelled, WellFormed, plain}

-- what lies past the first of two parts that stand at a place
drop_past : (xs ys rest : List ℕ) (at : ℕ) → drop at xs ≡ ys ++ rest → drop (at + length ys) xs ≡ rest
drop_past xs ys rest at e = sym (drop-drop (length ys) at xs) ∙ ap (drop (length ys)) e ∙ drop_at ys rest _ refl

-- the part that stands at a place lies within the request
within : (xs ys : List ℕ) (at : ℕ) → drop at xs ≡ ys → 0 < length ys → at + length ys ≡ length xs
within xs ys at e h = omega (arith, sym (length-drop at xs) ∙ ap length e)

-- a byte of it
byte_at : (xs ys : List ℕ) (at k : ℕ) → drop at xs ≡ ys → get_or xs (at + k) 0 ≡ get_or ys k 0
byte_at xs ys at k e = sym (get_or-drop at xs k 0) ∙ ap (λ l. get_or l k 0) e

module _ (xs : List ℕ) (at : ℕ) where
  -- the first byte says which item it is
  is_end : at < length xs → get_or xs at 0 ≡ 3 → next_item xs at ≡ Ok (end, at + 1)
  is_end h e = grind (arith, nat_tests)

  is_mark : at < length xs → 1 ≤ get_or xs at 0 → get_or xs at 0 < 16 → (get_or xs at 0 ≡ 3 → ⊥) → next_item xs at ≡ Ok (mark (get_or xs at 0), at + 1)
  is_mark h a b c = grind (arith, nat_tests)

  is_tag : at < length xs → 16 ≤ get_or xs at 0 → next_item xs at ≡ then Bytes (counted_at xs (at + 1)) (λ n. then Bytes (counted_at xs n.1) (valued (get_or xs at 0) n))
  is_tag h a = grind (arith, nat_tests)

  -- where an item is read there is a byte, and not 0x00
  is_some : (q : Piece × ℕ) → next_item xs at ≡ Ok q → (at < length xs) × (1 ≤ get_or xs at 0)
  is_some q e = grind (arith, nat_tests)

  -- counted bytes are read if they lie within the request, and only then
  is_counted : at + 2 + two_at xs at ≤ length xs → counted_at xs at ≡ Ok (record { bytes = take (two_at xs at) (drop (at + 2) xs); place = at + 2 }, at + 2 + two_at xs at)
  is_counted h = grind (arith, nat_tests)

  was_counted : (q : Run × ℕ) → counted_at xs at ≡ Ok q → at + 2 + two_at xs at ≤ length xs
  was_counted q e = grind (arith, nat_tests)

-- an item's bytes at a place, as the reader takes them: the item, the place past it, and what is left there
pub record Stands (xs : List ℕ) (at : ℕ) (w : Written) (rest : List ℕ) : Type 0 where
  pub piece : Piece
  pub next : ℕ
  pub item : next_item xs at ≡ Ok (piece, next)
  pub same : plain piece ≡ w
  pub left : drop next xs ≡ rest

-- the first byte of what stands at a place, and what is behind it
first_at : (xs ys : List ℕ) (x at : ℕ) → drop at xs ≡ x ∷ ys → (at < length xs) × (get_or xs at 0 ≡ x) × (drop (at + 1) xs ≡ ys)
first_at xs ys x at e =
    (omega (arith, within xs (x ∷ ys) at e (omega arith)), ap (λ i. get_or xs i 0) (sym (add-zero at)) ∙ byte_at xs (x ∷ ys) at 0 e, drop_past xs (x ∷ []) ys at e)

-- counted bytes are read, and what is left behind them
counted_stands : (xs bs rest : List ℕ) (at : ℕ) → drop at xs ≡ counted bs ++ rest → (counted_at xs at ≡ Ok (record { bytes = bs; place = at + 2 }, at + 2 + length bs)) × (drop (at + 2 + length bs) xs ≡ rest)
counted_stands xs bs rest at e =
    let a = first_at xs _ _ at e in
    let b = byte_at xs _ at 1 e in
    let k : two_at xs at ≡ length bs = omega arith in
    let d = drop_past xs (length bs / 256 ∷ length bs % 256 ∷ []) (bs ++ rest) at e in
    let t = take_at bs rest (length bs) refl in
    let l = within xs _ at e (omega arith) in
    let n = length-append bs rest in
    let c = is_counted xs at (omega arith) in
    (cc, drop_past xs bs rest (at + 2) d)

-- a tag with its name and its value
tagged_stands : (xs n v rest : List ℕ) (tag at : ℕ) → drop at xs ≡ tag ∷ (counted n ++ counted v ++ rest) → 16 ≤ tag
    → (next_item xs at ≡ valued tag (record { bytes = n; place = at + 1 + 2 }, at + 1 + 2 + length n) (record { bytes = v; place = at + 1 + 2 + length n + 2 }, at + 1 + 2 + length n + 2 + length v)) × (drop (at + 1 + 2 + length n + 2 + length v) xs ≡ rest)
tagged_stands xs n v rest tag at e h =
    let a = first_at xs _ tag at e in
    let b = counted_stands xs n (counted v ++ rest) (at + 1) (a.2 ∙ append_assoc (counted n) (counted v) rest) in
    let c = counted_stands xs v rest (at + 1 + 2 + length n) b.1 in
    let i = is_tag xs at a.0 (omega arith) in
    (i ∙ simp (b.0, c.0, a.1), c.1)

-- each item of the grammar is read as it was written
pub stands : (xs rest : List ℕ) (at : ℕ) (w : Written) → WellFormed w → drop at xs ≡ spelled w ++ rest → Stands xs at w rest
stands xs rest at (group m) h e =
    let a = first_at xs rest m at e in
    record { piece = mark m; next = at + 1; item = is_mark xs at a.0 (omega arith) (omega arith) (λ z. h.2 (sym a.1 ∙ z)) ∙ ap (λ k. Ok (mark k, at + 1)) a.1; same = refl; left = a.2 }
stands xs rest at (named tag n v) h e =
    let a = tagged_stands xs n v rest tag at e h.0 in
    record { piece = _; next = _; item = a.0 ∙ cond-false _ _ _ (ne_eqb (length n) 0 (λ z. omega arith)); same = refl; left = a.1 }
stands xs rest at (more tag v) h e =
    let a = tagged_stands xs [] v rest tag at e h.0 in
    record { piece = _; next = _; item = a.0; same = refl; left = a.1 }

-- the end is read
pub end_stands : (xs : List ℕ) (at : ℕ) → drop at xs ≡ 3 ∷ [] → (next_item xs at ≡ Ok (end, at + 1)) × (at + 1 ≡ length xs)
end_stands xs at e = let a = first_at xs [] 3 at e in (is_end xs at a.0 a.1, within xs _ at e (omega arith))

-- what `x?` passed on
then_passed : {A B E F : Type 0} (g : E → F) (r : Result A E) (f : A → Result B F) (y : B) → then g r f ≡ Ok y → (x : A) × (r ≡ Ok x) × (f x ≡ Ok y)
then_passed g (Ok x) f y e = (x, refl, e)
then_passed g (Err z) f y e = let c : ◌≡◌ {A = ℕ} 0 1 = cc in absurd (omega arith)

-- what was read, as the grammar has it: its bytes stand there, and, but for the end, it is well-formed
abbrev pub Was : List ℕ → ℕ → Piece × ℕ → Type 0
Was xs at q = (drop at xs ≡ spelled (plain q.0) ++ drop q.1 xs) × ((q.0 ≡ end → ⊥) → WellFormed (plain q.0))

-- a tag with its name and its value: by the name it is one of two items
valued_was : (xs : List ℕ) (at tag : ℕ) (n v : Run × ℕ) (q : Piece × ℕ) → 16 ≤ tag → length n.0.bytes < 65536 → length v.0.bytes < 65536 → drop at xs ≡ tag ∷ (counted n.0.bytes ++ counted v.0.bytes ++ drop v.1 xs) → valued tag n v ≡ Ok q → (bs : List ℕ) → n.0.bytes ≡ bs → Was xs at q
valued_was xs at tag n v q h a b d e [] z =
    let w : valued tag n v ≡ Ok (further tag v.0, v.1) = cond-true _ _ _ (eq-eqb (length n.0.bytes) 0 (ap length z)) in
    let p : (further tag v.0, v.1) ≡ q = cc in
    subst (Was xs at) p (d ∙ ap (λ m. tag ∷ (counted m ++ counted v.0.bytes ++ drop v.1 xs)) z, λ _. (h, b))
valued_was xs at tag n v q h a b d e (x ∷ bs) z =
    let l : 1 ≤ length n.0.bytes = omega (arith, ap length z) in
    let w : valued tag n v ≡ Ok (attribute tag n.0 v.0, v.1) = cond-false _ _ _ (ne_eqb (length n.0.bytes) 0 (λ k. omega arith)) in
    let p : (attribute tag n.0 v.0, v.1) ≡ q = cc in
    subst (Was xs at) p (d, λ _. (h, l, a, b))

module _ (xs : List ℕ) (byte : (i : ℕ) → get_or xs i 0 < 256) where
  -- the two bytes of a length are those of its number
  counted_was : (at : ℕ) (q : Run × ℕ) → counted_at xs at ≡ Ok q → (drop at xs ≡ counted q.0.bytes ++ drop q.1 xs) × (length q.0.bytes < 65536)
  counted_was at q e =
      let k : ℕ = two_at xs at in
      let rest : List ℕ = drop (at + 2) xs in
      let h = was_counted xs at q e in
      let c = is_counted xs at h in
      let p : (record { bytes = take k rest; place = at + 2 }, at + 2 + k) ≡ q = cc in
      let a = byte at in
      let b = byte (at + 1) in
      let l = length-take-le k rest (omega (arith, length-drop (at + 2) xs)) in
      let hi : length (take k rest) / 256 ≡ get_or xs at 0 = omega arith in
      let lo : length (take k rest) % 256 ≡ get_or xs (at + 1) 0 = omega arith in
      let two : at + 1 + 1 ≡ at + 2 = omega arith in
      let d = drop_more xs at 0 (omega arith) in
      let f = drop_more xs (at + 1) 0 (omega arith) in
      let cut = take-append-drop k rest in
      let far = drop-drop k (at + 2) xs in
      subst (λ (r : Run × ℕ). (drop at xs ≡ counted r.0.bytes ++ drop r.1 xs) × (length r.0.bytes < 65536)) p (cc, omega arith)

  -- whatever is read of bytes is of the grammar
  pub item_was : (at : ℕ) (q : Piece × ℕ) → next_item xs at ≡ Ok q → Was xs at q
  item_was at q e =
      let s = is_some xs at q e in
      let d = drop_more xs at 0 s.0 in
      elim (cases_lt (get_or xs at 0) 16) [
        | inl l ↦ elim (cases_eq (get_or xs at 0) 3) [
          | inl t ↦
              let w = is_end xs at s.0 t in
              let p : (end, at + 1) ≡ q = cc in
              subst (Was xs at) p (cc, λ n. absurd (n refl))
          | inr n ↦
              let w = is_mark xs at s.0 s.1 l n in
              let p : (mark (get_or xs at 0), at + 1) ≡ q = cc in
              subst (Was xs at) p (d, λ _. (s.1, l, n))
        ]
        | inr g ↦
            let a = then_passed Bytes _ _ q (sym (is_tag xs at s.0 g) ∙ e) in
            let b = then_passed Bytes _ _ q a.2 in
            let m = counted_was (at + 1) a.0 a.1 in
            let v = counted_was a.0.1 b.0 b.1 in
            let c = append_assoc (counted a.0.0.bytes) (counted b.0.0.bytes) (drop b.0.1 xs) in
            valued_was xs at (get_or xs at 0) a.0 b.0 q g m.1 v.1 (cc (d, m.0, v.0, c)) b.2 _ refl
      ]
