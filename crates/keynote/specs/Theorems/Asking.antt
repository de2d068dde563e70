-- W-206, "Nobody asks as POLICY": no accepted query has POLICY among its requesters, so its direct authorization is 0. Assumes nothing.
use Rattle.std.specs.Prelude.{◌≡◌, refl, true, false, List, ℕ}
use Rattle.text.specs.Choice.{split, clash}
use Rattle.text.specs.Equal.{equal, equal-refl}
use Rattle.record.specs.Query.{Query}
use Rattle.record.specs.Read.{accepted}
use Rattle.record.specs.Record.{read_record}
use Rattle.record.specs.Valid.{Each, each[], each∷, RequesterOk}
use Rattle.record.specs.RoundTrip.{Bytes}
use Rattle.record.proofs.Laws.RoundTrip.{read_back}
use Rattle.principal.specs.Principal.{Principal, same, policy}
use Rattle.principal.proofs.Laws.Principal.{policy-alone}
use Rattle.principal.specs.Members.{member}
use Rattle.compliance.specs.System.{direct}
use Rattle.keynote.specs.Answer.{system}

no-policy : {seen l : List Principal} → Each RequesterOk seen l → member policy l ≡ false
unfolding member
no-policy each[] = refl
no-policy (each∷ {a = b} k t) = split (same policy b)
    (λ e. let z : b ≡ policy = policy-alone b e in let y : equal b policy ≡ true = rw z (equal-refl policy) in clash y k.1)
    (λ e. rw e (no-policy t))

-- no accepted query has POLICY among its requesters
pub policy-asks-not : (s : List ℕ) → Bytes s → (q : Query) → read_record s ≡ accepted q → member policy q.requesters ≡ false
policy-asks-not s bytes q e = no-policy (read_back s bytes q e).0.requesters.1

-- so "its direct authorization" is 0: what rank it has comes from assertions
pub policy-direct : (s : List ℕ) → Bytes s → (q : Query) → read_record s ≡ accepted q → direct (system q) policy ≡ 0
unfolding direct system
policy-direct s bytes q e = rw (policy-asks-not s bytes q e)
