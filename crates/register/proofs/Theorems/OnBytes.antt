-- Calls on bytes: from the bytes of the empty register every call is one on the register that they say. Assumes nothing.
use Rattle.std.specs.Prelude.{◌≡◌, refl, List, [], ◌∷◌}
use Rattle.std.proofs.Common.{ap, ◌∙◌}
use Rattle.register.specs.Entries.{Contents, empty}
use Rattle.register.specs.Calls.{Call, called, left, ran}
use Rattle.register.specs.Layout.{encode, decode, register}
use Rattle.register.specs.OnBytes.{on_bytes}
use Rattle.register.specs.Theorems.Conservation.{Sound, empty-sound}
use Rattle.register.proofs.Theorems.Conservation.{call_kept, reached-sound}
use Rattle.register.specs.Theorems.Layout.{decode-encode}
use Rattle.register.specs.Theorems.OnBytes.{AllFour, Named, bytes_of, call-on, fits, named-empty, named-left, none, ran_on, settled-left, some}

ran_on_lem : (r : Contents) → Sound r → Named r.entries → (cs : List Call) → AllFour cs → ran_on (encode r) cs ≡ encode (ran r cs)
unfolding ran_on ran
ran_on_lem r s t [] none = refl
ran_on_lem r s t (c ∷ cs) (some f fs) =
    let q : Contents = left r (called r c) in
    let e : bytes_of (on_bytes (encode r) c) ≡ encode (left r (called r c))
    = ap bytes_of (call-on r (fits r s t) c) ∙ settled-left r (called r c) in
    rw e (ran_on_lem (left r (called r c)) (call_kept r s c).sound (named-left r c (called r c) refl f t) cs fs)

named-ran : (r : Contents) → Sound r → Named r.entries → (cs : List Call) → AllFour cs → Named (ran r cs).entries
unfolding ran
named-ran r s t [] none = t
named-ran r s t (c ∷ cs) (some f fs) =
    named-ran (left r (called r c)) (call_kept r s c).sound (named-left r c (called r c) refl f t) cs fs

-- so all that holds of registers reached from the empty one holds of their bytes
pub reached-on : (cs : List Call) → AllFour cs → ran_on (encode empty) cs ≡ encode (ran empty cs)
reached-on cs f = ran_on_lem empty empty-sound named-empty cs f

pub reached-decoded : (cs : List Call) → AllFour cs → decode (ran_on (encode empty) cs) ≡ register (ran empty cs)
reached-decoded cs f =
    ap decode (reached-on cs f)
    ∙ decode-encode (ran empty cs) (fits (ran empty cs) (reached-sound cs) (named-ran empty empty-sound named-empty cs f))
