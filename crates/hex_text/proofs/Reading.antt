-- The steps of reading and of writing, and what is read back. Assumes nothing.
use Rattle.std.proofs.Common.{◌≡◌, ℕ, zero, suc, ◌+◌, ◌*◌, ◌/◌, ◌%◌, ◌<◌, ◌≤◌, List, [], ◌∷◌, ◌++◌, length, get_or, drop, Ok, Err, Result, sym, refl, ap, ◌∙◌, arith}
use Rattle.std.proofs.lemmas.List.{append_assoc, append-nil, at_drop_more, at_drop_all, drop_more}
use Rattle.std.proofs.lemmas.Bool.Decides.{nat_tests}
use Rattle.std.specs.List.{AllByRecursion}
use Rattle.std.specs.Simd.{first_chunks}
use Rattle.hex_text.specs.declared.HexFault.{HexFault}
use Rattle.hex_text.specs.declared.HexFault.TheVariants.{Digit, Odd, Memory}
use Rattle.hex_text.specs.Hex.{digit_of, then, byte_of, bytes_of, fault_alone, Says, char_of, text_of}

-- what is read after some bytes
abbrev pub after : List ℕ → Result (List ℕ) HexFault → Result (List ℕ) HexFault
after acc (Ok bs) = Ok (acc ++ bs)
after acc (Err e) = Err e

after_more : (acc : List ℕ) (b : ℕ) (r : Result (List ℕ) HexFault) → after acc (then r (λ bs. Ok (b ∷ bs))) ≡ after (acc ++ b ∷ []) r
after_more acc b (Ok bs) = ap Ok (sym (append_assoc acc (b ∷ []) bs))
after_more acc b (Err e) = refl

-- a fault of the text, as `decode` answers it
pub says : (w : Result (List ℕ) HexFault) (e : HexFault) → w ≡ Err e → Says w (Err e)
says w Digit h = h
says w Odd h = h
says w Memory h = tt

-- what is read from pairs of digits, and then from the rest
abbrev pub pairs_of : List (List ℕ) → List ℕ → Result (List ℕ) HexFault
pairs_of [] rest = bytes_of rest
pairs_of (p ∷ ps) rest = then (byte_of (get_or p 0 0) (get_or p 1 0)) (λ n. then (pairs_of ps rest) (λ bs. Ok (n ∷ bs)))

pub pairs_read : (k : ℕ) (xs : List ℕ) → k * 2 ≤ length xs → pairs_of (first_chunks 2 k xs) (drop (k * 2) xs) ≡ bytes_of xs
pairs_read zero xs h = refl
pairs_read (suc k) [] h = absurd (omega arith)
pairs_read (suc k) (a ∷ []) h = absurd (omega arith)
pairs_read (suc k) (a ∷ b ∷ cs) h =
    let twice : suc k * 2 ≡ suc (suc (k * 2)) = omega arith in
    rw (twice, pairs_read k cs (omega arith))

after_none : (r : Result (List ℕ) HexFault) → after [] r ≡ r
after_none (Ok bs) = refl
after_none (Err e) = refl

-- all pairs are left
pub all_left : (xs : List ℕ) (ps : List (List ℕ)) (rest : List ℕ) → ps ≡ first_chunks 2 (length xs / 2) xs → rest ≡ drop (length xs / 2 * 2) xs → after [] (pairs_of ps rest) ≡ bytes_of xs
all_left xs ps rest p q = rw (p, q) (after_none (pairs_of (first_chunks 2 (length xs / 2) xs) (drop (length xs / 2 * 2) xs)) ∙ pairs_read (length xs / 2) xs (omega arith))

alone_is_fault : (acc rest : List ℕ) → length rest ≡ 1 → after acc (bytes_of rest) ≡ Err (fault_alone (digit_of (get_or rest 0 0)))
alone_is_fault acc [] h = absurd (omega arith)
alone_is_fault acc (a ∷ []) h = refl
alone_is_fault acc (a ∷ b ∷ cs) h = absurd (omega arith)

nothing_left : (acc rest : List ℕ) → length rest ≡ 0 → after acc (bytes_of rest) ≡ Ok acc
nothing_left acc [] h = ap Ok (append-nil acc)
nothing_left acc (a ∷ cs) h = absurd (omega arith)

module _ (ps : List (List ℕ)) (rest : List ℕ) (at : ℕ) (acc : List ℕ) where
  pub fault_left : (e : HexFault) → at < length ps → byte_of (get_or (get_or ps at []) 0 0) (get_or (get_or ps at []) 1 0) ≡ Err e → after acc (pairs_of (drop at ps) rest) ≡ Err e
  fault_left e h d = rw (drop_more ps at [] h, d)

  pub byte_read : (n : ℕ) → at < length ps → byte_of (get_or (get_or ps at []) 0 0) (get_or (get_or ps at []) 1 0) ≡ Ok n → after acc (pairs_of (drop at ps) rest) ≡ after (acc ++ n ∷ []) (pairs_of (drop (at + 1) ps) rest)
  byte_read n h d = rw (drop_more ps at [] h, d) (after_more acc n (pairs_of (drop (at + 1) ps) rest))

  no_pair_left : length ps ≤ at → after acc (pairs_of (drop at ps) rest) ≡ after acc (bytes_of rest)
  no_pair_left h = at_drop_all (λ qs. after acc (pairs_of qs rest)) ps at h

  pub alone_left : length ps ≤ at → length rest ≡ 1 → after acc (pairs_of (drop at ps) rest) ≡ Err (fault_alone (digit_of (get_or rest 0 0)))
  alone_left h l = no_pair_left h ∙ alone_is_fault acc rest l

  pub bytes_done : length ps ≤ at → length rest ≡ 0 → after acc (pairs_of (drop at ps) rest) ≡ Ok acc
  bytes_done h l = no_pair_left h ∙ nothing_left acc rest l

module _ (xs : List ℕ) (at : ℕ) where
  pub text_left : (acc : List ℕ) → at < length xs → acc ++ text_of (drop at xs) ≡ ((acc ++ char_of (get_or xs at 0 / 16) ∷ []) ++ char_of (get_or xs at 0 % 16) ∷ []) ++ text_of (drop (at + 1) xs)
  text_left acc h = at_drop_more (λ ys. acc ++ text_of ys) xs at 0 h ∙ simp append_assoc

  pub text_done : (acc : List ℕ) → length xs ≤ at → acc ++ text_of (drop at xs) ≡ acc
  text_done acc h = at_drop_all (λ ys. acc ++ text_of ys) xs at h ∙ append-nil acc

digit_back : (n : ℕ) → n < 16 → digit_of (char_of n) ≡ Ok n
digit_back n h = grind (arith, nat_tests)

pub reads_back : (bs : List ℕ) → AllByRecursion (λ b. b < 256) bs → bytes_of (text_of bs) ≡ Ok bs
reads_back [] h = refl
reads_back (b ∷ bs) h =
    let whole : b / 16 * 16 + b % 16 ≡ b = omega arith in
    rw (digit_back (b / 16) (omega arith), digit_back (b % 16) (omega arith), reads_back bs h.1) (ap (λ n. Ok (n ∷ bs)) whole)
