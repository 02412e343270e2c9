pub mod PersianYears
