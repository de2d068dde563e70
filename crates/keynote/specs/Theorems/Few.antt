-- A kept assertion names at most 16 licensees. Assumes nothing.
use Rattle.std.specs.Prelude.{◌≡◌, List, ℕ, ◌≤◌, length}
use Rattle.std.proofs.Common.{ap, ◌∙◌, zero-le, arith}
use Rattle.std.proofs.lemmas.List.{length-map}
use Rattle.record.specs.Query.{Query}
use Rattle.limits.specs.Limits.{most_licensees}
use Rattle.compliance.specs.Licensees.{named, licensees}
use Rattle.expression.specs.Names.{Environment, environment}
use Rattle.naming.specs.Source.{Sources, Licensees, sources}
use Rattle.naming.specs.Naming.{identified, people, licensed}
use Rattle.naming.specs.Fault.{Fault, clear, faulty}
use Rattle.assertion.specs.Assertion.{Assertion}
use Rattle.assertion.specs.Read.{Read, kept, dropped}
use Rattle.assertion.specs.Said.{Said}
use Rattle.assertion.specs.Form.{Form, read_assertion}
use Rattle.assertion.specs.Resolved.{meant, fault_of, judged, resolved}
use Rattle.assertion.specs.Theorems.Evaluated.{people-named}
use Rattle.keynote.specs.Theorems.PlacesNaming.{LicenseesIn, missing-in, empty-in, given-in}
use Rattle.keynote.specs.Theorems.PlacesAssertion.{FormIn, formed-in, unformed-in, assertion-in}

-- one principal for each expression
people-many : (env : Environment) (e : Sources) → length (named (people env e)) ≡ length (sources e)
people-many env e = ap length (people-named env e) ∙ length-map (sources e) (identified env)

licensed-few : (q : Query) {s : List ℕ} {l : Licensees} → LicenseesIn s l → length (licensees (licensed q l)) ≤ most_licensees
unfolding licensed licensees
licensed-few q missing-in = zero-le
licensed-few q empty-in = zero-le
licensed-few q (given-in cs e h) = omega (arith, people-many (environment q cs) e, h.few)

-- what is read is dropped, or names at most 16
pub data FewRead : Read → Type 0 where
  few-kept : (a : Assertion) → length (licensees a.licensees) ≤ most_licensees → FewRead (kept a)
  few-dropped : (r p : ℕ) → FewRead (dropped r p)

judged-few : (q : Query) {s : List ℕ} (a : Said) → LicenseesIn s a.licensees → (f : Fault) → FewRead (judged q a f)
unfolding meant
judged-few q a l clear = few-kept _ (licensed-few q l)
judged-few q a l (faulty r p) = few-dropped r p

resolved-few : (q : Query) (standing : ℕ) {s : List ℕ} {r : Form} → FormIn s 0 9 r → FewRead (resolved q standing r)
resolved-few q standing (formed-in a i l) = judged-few q a l (fault_of q standing a)
resolved-few q standing (unformed-in r p h k l) = few-dropped r p

pub assertion-few : (q : Query) (standing : ℕ) (s : List ℕ) → FewRead (resolved q standing (read_assertion standing s))
assertion-few q standing s = resolved-few q standing (assertion-in standing s)
