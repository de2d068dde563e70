-- The rulings on equal principals (K01), computed from the definition as one table. Assumes nothing.
use Rattle.std.specs.Prelude.{◌≡◌, refl, Bool, true, false, List, [], ◌∷◌, ℕ}
use Prim.Native.Char.{code}
use Prim.Native.String.{String, [] as nothing, ◌∷◌ as ◌then◌}
use Rattle.text.specs.Equal.{equal}
use Rattle.principal.specs.Canonical.{fold, folded, front, behind, is_hex, canonical_with, canonical}
use Rattle.principal.specs.Principal.{same}

-- the bytes of a text
unfoldable pub bytes : String → List ℕ
bytes nothing = []
bytes (c then s) = code c ∷ bytes s

-- are they one principal?
unfoldable pub one : String → String → Bool
one p q = same (bytes p) (bytes q)

pub record Rulings : Type 0 where
  pub same-1 : one "DSA:ab" "dsa:ab" ≡ true
  pub same-2 : one "DSA:ab" "DSA:AB" ≡ false
  pub same-3 : one "rsa-hex:ab" "RSA-HEX:AB" ≡ true
  pub same-4 : one "dsa-hex:a:Xy" "DSA-hex:A:xY" ≡ true
  pub same-5 : one "rsa-hexx:a" "rsa-hexx:A" ≡ false
  pub same-6 : one "rsa-base64:a" "RSA-BASE64:a" ≡ true
  pub same-7 : one ":a" ":A" ≡ false
  pub same-8 : one ":a" "a" ≡ false
  pub same-9 : one "a" "A" ≡ false
  pub same-10 : one "rsa-hex" "RSA-HEX" ≡ false
  pub same-11 : one "rsa-hex:" "RSA-HEX:" ≡ true
  pub same-12 : one "POLICY" "policy" ≡ false
  pub same-13 : one "POLICY" "POLICY:" ≡ false
  pub same-14 : one "POLICY:" "policy:" ≡ true
  pub same-15 : one "[:a" "{:a" ≡ false
  -- only A to Z fold: a letter of another alphabet, as one byte, doesn't
  pub same-16 : same (201 ∷ 58 ∷ 97 ∷ []) (233 ∷ 58 ∷ 97 ∷ []) ≡ false

pub rulings : Rulings
unfolding bytes one equal fold folded front behind is_hex canonical_with canonical same
rulings = record {
  same-1 = refl;
  same-2 = refl;
  same-3 = refl;
  same-4 = refl;
  same-5 = refl;
  same-6 = refl;
  same-7 = refl;
  same-8 = refl;
  same-9 = refl;
  same-10 = refl;
  same-11 = refl;
  same-12 = refl;
  same-13 = refl;
  same-14 = refl;
  same-15 = refl;
  same-16 = refl;
}
