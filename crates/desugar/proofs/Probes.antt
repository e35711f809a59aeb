-- The starred probes of document 01 as one list under one theorem, further ones, and refusals, proved from the definitions by computing.
use mathlib.Core.Path.{◌≡◌, refl}
use mathlib.Core.List.{map}
use Rattle.desugar.specs.Probes.{answered, computed, further, longer, refusals, refused_by, starred, stated, too_long}

pub starred_probes : map computed starred ≡ map stated starred
starred_probes = refl

pub further_probes : map computed further ≡ map stated further
further_probes = refl

pub refused_probes : map answered refusals ≡ map refused_by refusals
refused_probes = refl

pub longer_probes : map computed longer ≡ map stated longer
longer_probes = refl

pub too_long_probes : map answered too_long ≡ map refused_by too_long
too_long_probes = refl
