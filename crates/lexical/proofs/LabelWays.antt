-- The ways out of the functions of `label`. Assumes nothing.
use mathlib.Core.Path.{◌≡◌, sym}
use mathlib.Core.Bool.{Bool, true, false}
use mathlib.Core.List.{List}
use Prim.Native.Nat.{ℕ}
use Rattle.lexical.specs.Kind.{BAD_LINE, KEYNOTE_VERSION, LOCAL_CONSTANTS, AUTHORIZER, LICENSEES, CONDITIONS, COMMENT, SIGNATURE}
use Rattle.lexical.specs.Word.{stands}
use Rattle.lexical.specs.Label.{label_kind, word_keynote_version, word_local_constants, word_authorizer, word_licensees, word_conditions, word_comment, word_signature}

module _ (s : List ℕ) (i : ℕ) where
  module _ (t0 : Bool) (e0 : t0 ≡ stands s i word_keynote_version) where
    pub is-keynote-version : t0 ≡ true → KEYNOTE_VERSION ≡ label_kind s i
    unfolding label_kind
    is-keynote-version h = simp (sym e0, h)

    module _ (n0 : t0 ≡ false) where
      module _ (t1 : Bool) (e1 : t1 ≡ stands s i word_local_constants) where
        pub is-local-constants : t1 ≡ true → LOCAL_CONSTANTS ≡ label_kind s i
        unfolding label_kind
        is-local-constants h = simp (sym e0, n0, sym e1, h)

        module _ (n1 : t1 ≡ false) where
          module _ (t2 : Bool) (e2 : t2 ≡ stands s i word_authorizer) where
            pub is-authorizer : t2 ≡ true → AUTHORIZER ≡ label_kind s i
            unfolding label_kind
            is-authorizer h = simp (sym e0, n0, sym e1, n1, sym e2, h)

            module _ (n2 : t2 ≡ false) where
              module _ (t3 : Bool) (e3 : t3 ≡ stands s i word_licensees) where
                pub is-licensees : t3 ≡ true → LICENSEES ≡ label_kind s i
                unfolding label_kind
                is-licensees h = simp (sym e0, n0, sym e1, n1, sym e2, n2, sym e3, h)

                module _ (n3 : t3 ≡ false) where
                  module _ (t4 : Bool) (e4 : t4 ≡ stands s i word_conditions) where
                    pub is-conditions : t4 ≡ true → CONDITIONS ≡ label_kind s i
                    unfolding label_kind
                    is-conditions h = simp (sym e0, n0, sym e1, n1, sym e2, n2, sym e3, n3, sym e4, h)

                    module _ (n4 : t4 ≡ false) where
                      module _ (t5 : Bool) (e5 : t5 ≡ stands s i word_comment) where
                        pub is-comment : t5 ≡ true → COMMENT ≡ label_kind s i
                        unfolding label_kind
                        is-comment h = simp (sym e0, n0, sym e1, n1, sym e2, n2, sym e3, n3, sym e4, n4, sym e5, h)

                        module _ (n5 : t5 ≡ false) where
                          module _ (t6 : Bool) (e6 : t6 ≡ stands s i word_signature) where
                            pub is-signature : t6 ≡ true → SIGNATURE ≡ label_kind s i
                            unfolding label_kind
                            is-signature h = simp (sym e0, n0, sym e1, n1, sym e2, n2, sym e3, n3, sym e4, n4, sym e5, n5, sym e6, h)

                            pub is_none : t6 ≡ false → BAD_LINE ≡ label_kind s i
                            unfolding label_kind
                            is_none n6 = simp (sym e0, n0, sym e1, n1, sym e2, n2, sym e3, n3, sym e4, n4, sym e5, n5, sym e6, n6)
