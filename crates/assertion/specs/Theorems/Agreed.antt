-- What a text asserts depends on the query only by what its expressions identify there. Assumes nothing.
use Rattle.std.specs.Prelude.{◌≡◌, ℕ}
use Rattle.std.proofs.Math.Path.{refl, ap}
use Rattle.std.proofs.Common.{◌∙◌}
use mathlib.Core.List.Memᴰ
use mathlib.Core.List.Memᴰ.{head as here}
use mathlib.Core.List.Memᴰ.{tail as there}
use mathlib.Core.List.{List, [], ◌∷◌, map, Memᴰ as Mem}
use Rattle.record.specs.Query.{Query, Attribute}
use Rattle.compliance.specs.Licensees as Compliance
use Rattle.expression.specs.Names.{environment}
use Rattle.naming.specs.Source.{Source, Sources, one, and, or, k_of, Licensees, missing, empty, given, Author, sources}
use Rattle.naming.specs.Naming.{identified, people, author, licensed}
use Rattle.naming.specs.Fault.{Fault, clear, faulty, size_fault, source_fault, author_fault, first_fault, licensees_fault}
use Rattle.assertion.specs.Read.{kept}
use Rattle.assertion.specs.Said.{Said}
use Rattle.assertion.specs.Form.{Form, formed, unformed}
use Rattle.assertion.specs.Resolved.{meant, fault_of, judged, resolved}

-- lists whose members give the same give the same
pub map_same : {A B : Type 0} (f g : A → B) (l : List A) → ((x : A) → Mem x l → f x ≡ g x) → map f l ≡ map g l
map_same f g [] h = refl
map_same f g (x ∷ l) h = cc (h x (here refl), map_same f g l (λ y m. h y (there m)))

module _ (q q' : Query) where
  -- behind these constants the expression identifies the same in both queries
  abbrev pub Agree : List Attribute → Source → Type 0
  Agree cs x = identified (environment q cs) x ≡ identified (environment q' cs) x

  -- so do the licensees'
  abbrev pub LicenseesAgree : Licensees → Type 0
  LicenseesAgree l = (cs : List Attribute) (e : Sources) (x : Source) → l ≡ given cs e → Mem x (sources e) → Agree cs x

  -- and all that a text has
  abbrev pub SaidAgree : Said → Type 0
  SaidAgree a = Agree a.author.constants a.author.by × LicenseesAgree a.licensees

  source-agrees : (cs : List Attribute) (x : Source) → Agree cs x → source_fault (environment q cs) x ≡ source_fault (environment q' cs) x
  unfolding source_fault
  source-agrees cs x h = ap (size_fault x.place) h

  author-agrees : (standing : ℕ) (a : Author) → Agree a.constants a.by → author_fault standing q a ≡ author_fault standing q' a
  unfolding author_fault author
  author-agrees standing a h = rw (source-agrees a.constants a.by h, h)

  people-agree : (cs : List Attribute) (e : Sources) → ((x : Source) → Mem x (sources e) → Agree cs x)
      → people (environment q cs) e ≡ people (environment q' cs) e
  unfolding people sources
  people-agree cs (one x) h = ap Compliance.name (h x (here refl))
  people-agree cs (and a b) h =
      cc (people-agree cs a (λ x m. h x (Memᴰ.append_left (sources b) m)), people-agree cs b (λ x m. h x (Memᴰ.append_right (sources a) m)))
  people-agree cs (or a b) h =
      cc (people-agree cs a (λ x m. h x (Memᴰ.append_left (sources b) m)), people-agree cs b (λ x m. h x (Memᴰ.append_right (sources a) m)))
  people-agree cs (k_of k xs) h = ap (Compliance.k_of k) (map_same (identified (environment q cs)) (identified (environment q' cs)) xs h)

  licensees-agree : (l : Licensees) → LicenseesAgree l → licensed q l ≡ licensed q' l
  unfolding licensed
  licensees-agree missing h = refl
  licensees-agree empty h = refl
  licensees-agree (given cs e) h = ap Compliance.given (people-agree cs e (λ x m. h cs e x refl m))

  faults-agree : (l : Licensees) → LicenseesAgree l → licensees_fault q l ≡ licensees_fault q' l
  unfolding licensees_fault
  faults-agree missing h = refl
  faults-agree empty h = refl
  faults-agree (given cs e) h =
      ap first_fault (map_same (source_fault (environment q cs)) (source_fault (environment q' cs)) (sources e) (λ x m. source-agrees cs x (h cs e x refl m)))

  meant-agree : (a : Said) → SaidAgree a → meant q a ≡ meant q' a
  unfolding meant author
  meant-agree a h = cc (h.0, licensees-agree a.licensees h.1)

  fault-agrees : (standing : ℕ) (a : Said) → SaidAgree a → fault_of q standing a ≡ fault_of q' standing a
  unfolding fault_of
  fault-agrees standing a h = rw (author-agrees standing a.author h.0, faults-agree a.licensees h.1)

  judged-agree : (a : Said) → SaidAgree a → (f : Fault) → judged q a f ≡ judged q' a f
  judged-agree a h clear = ap kept (meant-agree a h)
  judged-agree a h (faulty r p) = refl

  -- a text is read the same in both
  pub resolved-agree : (standing : ℕ) (r : Form) → ((a : Said) → r ≡ formed a → SaidAgree a) → resolved q standing r ≡ resolved q' standing r
  resolved-agree standing (unformed r p) h = refl
  resolved-agree standing (formed a) h =
      judged-agree a (h a refl) (fault_of q standing a) ∙ ap (λ (f : Fault). judged q' a f) (fault-agrees standing a (h a refl))
