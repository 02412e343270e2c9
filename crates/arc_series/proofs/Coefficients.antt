-- 1 over the odd numbers from 1 to 57 in 64 bits, rounded down: each numeral of the kernel is compared with its
-- fraction by computing.
use Rattle.arc_series.specs.Kernel.{IsCut}

pub cut_1 : IsCut 18446744073709551615 0
cut_1 = record { not_above = record { cross = record { le = tt } }; close = record { cross = record { le = tt } } }

pub cut_3 : IsCut 6148914691236517205 2
cut_3 = record { not_above = record { cross = record { le = tt } }; close = record { cross = record { le = tt } } }

pub cut_5 : IsCut 3689348814741910323 4
cut_5 = record { not_above = record { cross = record { le = tt } }; close = record { cross = record { le = tt } } }

pub cut_7 : IsCut 2635249153387078802 6
cut_7 = record { not_above = record { cross = record { le = tt } }; close = record { cross = record { le = tt } } }

pub cut_9 : IsCut 2049638230412172401 8
cut_9 = record { not_above = record { cross = record { le = tt } }; close = record { cross = record { le = tt } } }

pub cut_11 : IsCut 1676976733973595601 10
cut_11 = record { not_above = record { cross = record { le = tt } }; close = record { cross = record { le = tt } } }

pub cut_13 : IsCut 1418980313362273201 12
cut_13 = record { not_above = record { cross = record { le = tt } }; close = record { cross = record { le = tt } } }

pub cut_15 : IsCut 1229782938247303441 14
cut_15 = record { not_above = record { cross = record { le = tt } }; close = record { cross = record { le = tt } } }

pub cut_17 : IsCut 1085102592571150095 16
cut_17 = record { not_above = record { cross = record { le = tt } }; close = record { cross = record { le = tt } } }

pub cut_19 : IsCut 970881267037344821 18
cut_19 = record { not_above = record { cross = record { le = tt } }; close = record { cross = record { le = tt } } }

pub cut_21 : IsCut 878416384462359600 20
cut_21 = record { not_above = record { cross = record { le = tt } }; close = record { cross = record { le = tt } } }

pub cut_23 : IsCut 802032351030850070 22
cut_23 = record { not_above = record { cross = record { le = tt } }; close = record { cross = record { le = tt } } }

pub cut_25 : IsCut 737869762948382064 24
cut_25 = record { not_above = record { cross = record { le = tt } }; close = record { cross = record { le = tt } } }

pub cut_27 : IsCut 683212743470724133 26
cut_27 = record { not_above = record { cross = record { le = tt } }; close = record { cross = record { le = tt } } }

pub cut_29 : IsCut 636094623231363848 28
cut_29 = record { not_above = record { cross = record { le = tt } }; close = record { cross = record { le = tt } } }

pub cut_31 : IsCut 595056260442243600 30
cut_31 = record { not_above = record { cross = record { le = tt } }; close = record { cross = record { le = tt } } }

pub cut_33 : IsCut 558992244657865200 32
cut_33 = record { not_above = record { cross = record { le = tt } }; close = record { cross = record { le = tt } } }

pub cut_35 : IsCut 527049830677415760 34
cut_35 = record { not_above = record { cross = record { le = tt } }; close = record { cross = record { le = tt } } }

pub cut_37 : IsCut 498560650640798692 36
cut_37 = record { not_above = record { cross = record { le = tt } }; close = record { cross = record { le = tt } } }

pub cut_39 : IsCut 472993437787424400 38
cut_39 = record { not_above = record { cross = record { le = tt } }; close = record { cross = record { le = tt } } }

pub cut_41 : IsCut 449920587163647600 40
cut_41 = record { not_above = record { cross = record { le = tt } }; close = record { cross = record { le = tt } } }

pub cut_43 : IsCut 428994048225803525 42
cut_43 = record { not_above = record { cross = record { le = tt } }; close = record { cross = record { le = tt } } }

pub cut_45 : IsCut 409927646082434480 44
cut_45 = record { not_above = record { cross = record { le = tt } }; close = record { cross = record { le = tt } } }

pub cut_47 : IsCut 392483916461905353 46
cut_47 = record { not_above = record { cross = record { le = tt } }; close = record { cross = record { le = tt } } }

pub cut_49 : IsCut 376464164769582686 48
cut_49 = record { not_above = record { cross = record { le = tt } }; close = record { cross = record { le = tt } } }

pub cut_51 : IsCut 361700864190383365 50
cut_51 = record { not_above = record { cross = record { le = tt } }; close = record { cross = record { le = tt } } }

pub cut_53 : IsCut 348051774975651917 52
cut_53 = record { not_above = record { cross = record { le = tt } }; close = record { cross = record { le = tt } } }

pub cut_55 : IsCut 335395346794719120 54
cut_55 = record { not_above = record { cross = record { le = tt } }; close = record { cross = record { le = tt } } }

pub cut_57 : IsCut 323627089012448273 56
cut_57 = record { not_above = record { cross = record { le = tt } }; close = record { cross = record { le = tt } } }
