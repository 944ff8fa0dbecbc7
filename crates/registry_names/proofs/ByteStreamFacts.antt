-- Calls of a stream in a row: what each of them wrote or read makes what all of them did.
use Rattle.std.proofs.Common.{◌≡◌, ℕ, zero, suc, ap, ◌+◌, ◌<◌, List, [], ◌++◌, length, Option, Some, None, Bool, true, false, refl, sym, append_assoc, append-nil, arith, length-append}
use Rattle.std.specs.Prelude.{Result, Ok, Err, OnErr}
use Rattle.std.proofs.lemmas.List.{take-append-le}
use Rattle.std.proofs.Math.Seq.{take-append-add, take-append_seam}
use Rattle.std.specs.Io.KnownBytes.{Appends, Consumes, Keeps}
use Rattle.registry_names.specs.ByteStreams.{Writes, WritesPrefix, Reads, raised, raised_by, full_count}

-- Bytes that are known were known before, where unknown is for good.
pub told-before : (s t : Bool) → (s ≡ true → t ≡ true) → t ≡ false → s ≡ false
told-before true t stays told = let unknown = stays refl in cc
told-before false t stays told = refl

-- Known bytes that grew by xs and then by ys grew by both.
pub Appends-append : (a b c : Option (List ℕ)) (xs ys : List ℕ) → Appends a b xs → Appends b c ys → Appends a c (xs ++ ys)
Appends-append None b c xs ys first second = tt
Appends-append (Some x) None c xs ys first second = absurd first
Appends-append (Some x) (Some y) None xs ys first second = absurd second
Appends-append (Some x) (Some y) (Some z) xs ys first second = rw (second, first) (append_assoc x xs ys)

-- Known bytes that stay grow by none.
pub Appends-kept : (a b : Option (List ℕ)) → Keeps a b → Appends a b []
Appends-kept None b kept = tt
Appends-kept (Some x) None kept = absurd kept
Appends-kept (Some x) (Some y) kept = rw kept (sym (append-nil x))

-- Known bytes that lost xs at their front and then ys lost both.
pub Consumes-append : (a b c : Option (List ℕ)) (xs ys : List ℕ) → Consumes a b xs → Consumes b c ys → Consumes a c (xs ++ ys)
Consumes-append None b c xs ys first second = tt
Consumes-append (Some x) None c xs ys first second = absurd first
Consumes-append (Some x) (Some y) None xs ys first second = absurd second
Consumes-append (Some x) (Some y) (Some z) xs ys first second = rw (first, second) (sym (append_assoc xs ys z))

-- Known bytes that stay lose none.
pub Consumes-kept : (a b : Option (List ℕ)) → Keeps a b → Consumes a b []
Consumes-kept None b kept = tt
Consumes-kept (Some x) None kept = absurd kept
Consumes-kept (Some x) (Some y) kept = sym kept

pub Keeps-same : (a : Option (List ℕ)) → Keeps a a
Keeps-same None = tt
Keeps-same (Some x) = refl

-- With no call nothing is written.
pub Writes-nothing : (a : Option (List ℕ)) (s : Bool) → Writes a a s []
Writes-nothing a s = record { told = λ told. Appends-kept a a (Keeps-same a) }

-- one call
pub Writes-one : {a b : Option (List ℕ)} {s : Bool} {xs : List ℕ} → (s ≡ false → Appends a b xs) → Writes a b s xs
Writes-one added = record { told = added }

-- some calls, and then some more
pub Writes-append : {a b c : Option (List ℕ)} {s t : Bool} {xs ys : List ℕ} → Writes a b s xs → Writes b c t ys → (s ≡ true → t ≡ true) → Writes a c t (xs ++ ys)
Writes-append {a} {b} {c} {s} {t} {xs} {ys} first second stays =
    record { told = λ told. Appends-append a b c xs ys (first.told (told-before s t stays told)) (second.told told) }

-- some calls, and then one that failed
pub Writes-failed : {a b c : Option (List ℕ)} {s t : Bool} {xs : List ℕ} → Writes a b s xs → (t ≡ false → Keeps b c) → (s ≡ true → t ≡ true) → Writes a c t xs
Writes-failed {a} {b} {c} {s} {t} {xs} first kept stays =
    let failed : Writes b c t [] = record { told = λ told. Appends-kept b c (kept told) } in
    rw append-nil at (Writes-append first failed stays)

-- a text, and then a prefix of the next
pub WritesPrefix-append : {a b c : Option (List ℕ)} {s t : Bool} {xs ys : List ℕ} → Writes a b s xs → WritesPrefix b c t ys → (s ≡ true → t ≡ true) → WritesPrefix a c t (xs ++ ys)
WritesPrefix-append {a} {b} {c} {s} {t} {xs} {ys} first prefix stays = record {
  count = length xs + prefix.count;
  is_less = omega (arith, length-append xs ys);
  wrote = rw (take-append-add xs ys prefix.count) (Writes-append first prefix.wrote stays);
}

-- A prefix of a text is one of a longer text.
pub WritesPrefix-longer : {a b : Option (List ℕ)} {s : Bool} {xs : List ℕ} (ys : List ℕ) → WritesPrefix a b s xs → WritesPrefix a b s (xs ++ ys)
WritesPrefix-longer {a} {b} {s} {xs} ys prefix = record {
  count = prefix.count;
  is_less = omega (arith, length-append xs ys);
  wrote = rw (take-append-le prefix.count xs ys (omega arith)) prefix.wrote;
}

-- A whole text is a prefix of a longer text.
pub WritesPrefix-stopped : {a b : Option (List ℕ)} {s : Bool} {xs : List ℕ} (ys : List ℕ) → Writes a b s xs → 0 < length ys → WritesPrefix a b s (xs ++ ys)
WritesPrefix-stopped {a} {b} {s} {xs} ys first more = record {
  count = length xs;
  is_less = omega (arith, length-append xs ys);
  wrote = rw (take-append_seam xs ys) first;
}

-- With no call nothing is read.
pub Reads-nothing : (a : Option (List ℕ)) (s : Bool) → Reads a a s []
Reads-nothing a s = record { told = λ told. Consumes-kept a a (Keeps-same a) }

-- one call
pub Reads-one : {a b : Option (List ℕ)} {s : Bool} {xs : List ℕ} → (s ≡ false → Consumes a b xs) → Reads a b s xs
Reads-one taken = record { told = taken }

-- some calls, and then some more
pub Reads-append : {a b c : Option (List ℕ)} {s t : Bool} {xs ys : List ℕ} → Reads a b s xs → Reads b c t ys → (s ≡ true → t ≡ true) → Reads a c t (xs ++ ys)
Reads-append {a} {b} {c} {s} {t} {xs} {ys} first second stays =
    record { told = λ told. Consumes-append a b c xs ys (first.told (told-before s t stays told)) (second.told told) }

-- some calls, and then one that failed
pub Reads-failed : {a b c : Option (List ℕ)} {s t : Bool} {xs : List ℕ} → Reads a b s xs → (t ≡ false → Keeps b c) → (s ≡ true → t ≡ true) → Reads a c t xs
Reads-failed {a} {b} {c} {s} {t} {xs} first kept stays =
    let failed : Reads b c t [] = record { told = λ told. Consumes-kept b c (kept told) } in
    rw append-nil at (Reads-append first failed stays)

-- A fact holds where there is an error.
pub on_err : {T E P : Type 0} (r : Result T E) → P → OnErr r P
on_err (Ok x) fact = tt
on_err (Err e) fact = fact

-- The greatest count stays, whatever fails.
pub raised_by-full : (k : ℕ) → raised_by k full_count ≡ full_count
raised_by-full zero = refl
raised_by-full (suc k) = ap raised (raised_by-full k)
